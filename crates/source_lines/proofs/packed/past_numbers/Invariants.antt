use Rattle.std.proofs.Common.{◌-◌, length}
use Rattle.source_lines.proofs.Skips.{Passing}
use Rattle.source_lines.proofs.packed.past_numbers.Given as goal

abbrev pub invariant-loop-k : goal.invariant-loop-k
invariant-loop-k l = Passing l.s l.p l.n l.at l.k

abbrev pub decreases-loop-k : goal.decreases-loop-k
decreases-loop-k l = length l.s - l.at

abbrev pub invariant-loop : goal.invariant-loop
invariant-loop l = Passing l.s l.p l.n l.at (l.k - l.counter)
