use Rattle.std.proofs.Common.{◌-◌}
use Rattle.utf8.proofs.Characters.{Latering}
use Rattle.utf8.proofs.try_at.Given as goal

abbrev pub invariant-loop-at : goal.invariant-loop-at
invariant-loop-at l = Latering l.s l.start l.end l.at.place l.at.characters

abbrev pub decreases-loop-at : goal.decreases-loop-at
decreases-loop-at l = l.end - l.at.place
