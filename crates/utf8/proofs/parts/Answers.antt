use Rattle.std.proofs.Common.{arith}
use Rattle.utf8.proofs.Characters.{parting-on, parting-last}
use Rattle.utf8.proofs.parts.Goals as goal

pub loop-at-preserved : goal.loop-at-preserved
loop-at-preserved c =
    parting-on c.loop-at.invariant c.next_part-part.ensures.tests c.next_part-part.ensures.within c.in_ok-characters.ensures

pub returns : goal.returns
returns c =
    let r = c.sixteen-rest.ensures in
    parting-last (omega arith) (omega arith) c.requires.1.0 c.requires.1.1 c.loop-at.invariant r.0 r.1 c.in_ok-characters-2.ensures
