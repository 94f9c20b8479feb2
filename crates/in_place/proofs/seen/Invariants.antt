use Rattle.in_place.proofs.Keys.{Looking}
use Rattle.in_place.proofs.seen.Given as goal

abbrev pub invariant-loop : goal.invariant-loop
invariant-loop l = Looking l.table l.s l.from l.n l.p l.at l.counter
