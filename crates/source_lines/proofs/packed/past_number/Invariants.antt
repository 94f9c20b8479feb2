use Rattle.std.proofs.Common.{◌-◌, length}
use Rattle.source_lines.proofs.Skips.{Inside}
use Rattle.source_lines.proofs.packed.past_number.Given as goal

abbrev pub invariant-loop-at : goal.invariant-loop-at
invariant-loop-at l = Inside l.s l.p l.at

abbrev pub decreases-loop-at : goal.decreases-loop-at
decreases-loop-at l = length l.s - l.at
