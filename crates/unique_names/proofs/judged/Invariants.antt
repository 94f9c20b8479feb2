use Rattle.unique_names.proofs.Asking.{Judging}
use Rattle.unique_names.proofs.judged.Given as goal

abbrev pub invariant-loop-i : goal.invariant-loop-i
invariant-loop-i l = Judging l.table l.s l.from l.n l.first l.initial.here l.p l.i l.here
