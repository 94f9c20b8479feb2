use Rattle.repeat_search.proofs.Marks.{Scanning}
use Rattle.repeat_search.proofs.scan.Given as goal

abbrev pub invariant-loop-i : goal.invariant-loop-i
invariant-loop-i l = Scanning l.list.table l.s l.list.from l.list.n l.p l.i l.marks
