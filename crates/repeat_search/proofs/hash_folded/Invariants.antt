use Rattle.std.proofs.Common.{◌-◌}
use Rattle.repeat_search.proofs.Hashes.{Streaming}
use Rattle.repeat_search.proofs.hash_folded.Given as goal

abbrev pub invariant-loop-at : goal.invariant-loop-at
invariant-loop-at l = Streaming l.seed l.s l.p l.end l.at l.hash

abbrev pub decreases-loop-at : goal.decreases-loop-at
decreases-loop-at l = l.end - l.at
