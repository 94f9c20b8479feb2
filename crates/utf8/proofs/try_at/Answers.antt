use Rattle.utf8.proofs.Characters.{later-on, later-told}
use Rattle.utf8.proofs.try_at.Goals as goal

pub returns-then-starts : goal.returns-then-starts
returns-then-starts c = later-told _ c.loop-at.invariant c.parts.ensures

pub loop-at-preserved : goal.loop-at-preserved
loop-at-preserved c = later-on c.in_ok-at.ensures c.loop-at.invariant
