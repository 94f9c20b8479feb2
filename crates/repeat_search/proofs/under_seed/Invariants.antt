use Rattle.std.proofs.Common.{◌*◌}
use Rattle.repeat_search.specs.Filters.{ClassedBy, Passed}
use Rattle.repeat_search.specs.Tables.{key_hash, keys_of}
use Rattle.repeat_search.proofs.Filters.{below}
use Rattle.repeat_search.proofs.under_seed.Given as goal

abbrev pub invariant-loop-part : goal.invariant-loop-part
invariant-loop-part l =
    Passed (ClassedBy (below (l.part * l.classes)) (key_hash l.list.table l.seed)) (keys_of l.s l.list) l.list.n l.first
