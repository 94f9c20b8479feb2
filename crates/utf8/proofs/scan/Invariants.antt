use Rattle.std.proofs.Common.{◌-◌}
use Rattle.utf8.proofs.Laws.{Going}
use Rattle.utf8.proofs.scan.Given as goal

abbrev pub invariant-loop-at : goal.invariant-loop-at
invariant-loop-at l = Going l.t l.at.place l.at.characters

abbrev pub decreases-loop-at : goal.decreases-loop-at
decreases-loop-at l = l.to - l.at.place
