use Rattle.alike_names.proofs.Searching.{Passing}
use Rattle.alike_names.proofs.search.items_without.Given as goal

abbrev pub invariant-loop : goal.invariant-loop
invariant-loop l = Passing l.item l.low l.high l.s l.from l.n l.p l.counter
