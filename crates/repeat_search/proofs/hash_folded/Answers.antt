use Rattle.repeat_search.proofs.Hashes.{streaming-done}
use Rattle.repeat_search.proofs.hash_folded.Goals as goal

pub returns : goal.returns
returns c = streaming-done c.loop-at.invariant c.loop-at-test.false c.ended.ensures
