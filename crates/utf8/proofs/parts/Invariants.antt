use Rattle.std.proofs.Common.{◌-◌}
use Rattle.utf8.proofs.Characters.{Parting}
use Rattle.utf8.proofs.parts.Given as goal

abbrev pub invariant-loop-at : goal.invariant-loop-at
invariant-loop-at l = Parting l.s l.fn.start.place l.end l.fn.start.characters l.at.place l.at.characters

abbrev pub decreases-loop-at : goal.decreases-loop-at
decreases-loop-at l = l.end - l.at.place
