use Rattle.repeat_search.proofs.Filters.{Suspecting}
use Rattle.repeat_search.proofs.suspect.Given as goal

abbrev pub invariant-loop : goal.invariant-loop
invariant-loop l =
    Suspecting l.classes l.seed l.list.table l.s l.list.from l.list.n l.filter l.suspects l.p l.counter
