use Rattle.empty_lists.proofs.Laws.{Passed}
use Rattle.empty_lists.proofs.past_empty.Given as goal

abbrev pub invariant-loop : goal.invariant-loop
invariant-loop l = Passed l.n l.initial.here l.initial.tape l.here l.tape l.counter
