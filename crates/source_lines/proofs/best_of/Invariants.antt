use Rattle.source_lines.proofs.Locations.{Going}
use Rattle.source_lines.proofs.best_of.Given as goal

abbrev pub invariant-loop-i : goal.invariant-loop-i
invariant-loop-i l = Going l.s l.from l.n l.address l.best l.at l.i
