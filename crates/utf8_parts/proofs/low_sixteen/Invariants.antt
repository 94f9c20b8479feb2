use Rattle.std.proofs.Common.{◌-◌, ◌+◌, ◌<◌}
use Rattle.utf8_parts.specs.Parts.{Ascii}
use Rattle.utf8_parts.proofs.low_sixteen.Given as goal

abbrev pub invariant-loop-k : goal.invariant-loop-k
invariant-loop-k l = l.bits < 128 → Ascii l.s (l.to - l.r) (l.from + l.k)
