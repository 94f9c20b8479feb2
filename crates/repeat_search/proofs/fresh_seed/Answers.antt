use Rattle.std.proofs.Common.{arith}
use Rattle.in_place.specs.Tables.{item_of}
use Rattle.repeat_search.proofs.Tables.{items-within}
use Rattle.repeat_search.proofs.fresh_seed.Goals as goal

pub hash_bytes-h-requires : goal.hash_bytes-h-requires
hash_bytes-h-requires c =
    let past = rw c.item_of.ensures at c.past_items-end.ensures in
    record { room = omega (arith, items-within (item_of c.args.list.table) c.args.list.n c.requires past (omega arith)) }
