use Rattle.repeat_search.proofs.Marks.{Scanning}
use Rattle.repeat_search.proofs.all_new.Given as goal

abbrev pub invariant-loop : goal.invariant-loop
invariant-loop l = Scanning l.table l.s l.from l.n l.p l.counter l.marks
