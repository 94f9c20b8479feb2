use Rattle.std.proofs.Common.{◌<◌, ◌-◌}
use Rattle.unique_names.proofs.Counting.{Counting}
use Rattle.unique_names.proofs.named.Given as goal

abbrev pub invariant-loop : goal.invariant-loop
invariant-loop l = (Counting l.s l.from l.n l.at (l.n - l.counter) l.names l.bytes) × (l.n < 4294967296)
