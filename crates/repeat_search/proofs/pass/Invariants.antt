use Rattle.repeat_search.specs.Tables.{key_hash, Sought}
use Rattle.repeat_search.proofs.Filters.{Passing}
use Rattle.repeat_search.proofs.pass.Given as goal

abbrev pub invariant-loop-i : goal.invariant-loop-i
invariant-loop-i l =
    Passing (Sought l.classes l.list l.seed l.suspects) (key_hash l.list.table l.seed) l.list.table l.s l.list.from l.list.n l.filter l.p l.i
