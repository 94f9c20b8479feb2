use Rattle.empty_lists.proofs.Laws.{Looked}
use Rattle.empty_lists.proofs.empty_at.Given as goal

abbrev pub invariant-loop-i : goal.invariant-loop-i
invariant-loop-i l = Looked l.s l.p l.n l.sum l.i
