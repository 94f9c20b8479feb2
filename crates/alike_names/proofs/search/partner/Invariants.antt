use Rattle.alike_names.proofs.Searching.{Partnering}
use Rattle.alike_names.proofs.search.partner.Given as goal

abbrev pub invariant-loop : goal.invariant-loop
invariant-loop l = Partnering l.item l.s l.from l.i l.p l.best l.at l.counter
