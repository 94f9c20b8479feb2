use Rattle.repeat_search.proofs.Tails.{tail-hashed}
use Rattle.repeat_search.proofs.hash_tail.Goals as goal

pub returns : goal.returns
returns c = tail-hashed _ c.tail.ensures c.from.ensures c.ended.ensures
