use Rattle.repeat_search.proofs.Hashes.{Blocks}
use Rattle.repeat_search.proofs.hash_long.Given as goal

abbrev pub invariant-loop-i : goal.invariant-loop-i
invariant-loop-i l = Blocks l.seed l.second l.h l.s l.start l.len l.lane1 l.lane2 l.i
