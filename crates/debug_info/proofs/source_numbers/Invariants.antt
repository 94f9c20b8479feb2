use Rattle.std.proofs.Common.{Ok}
use Rattle.reader.proofs.Laws.{Turns}
use Rattle.vob24.specs.Leaves.{source_u32}
use Rattle.debug_info.proofs.source_numbers.Given as goal

abbrev pub invariant-loop-k : goal.invariant-loop-k
invariant-loop-k l = Turns source_u32 l.s l.initial.tape (Ok l.initial.here) l.initial.k l.tape (Ok l.here) l.k

abbrev pub decreases-loop-k : goal.decreases-loop-k
decreases-loop-k l = l.k
