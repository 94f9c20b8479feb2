use Rattle.std.proofs.Common.{◌≤◌, ◌≡◌}
use Rattle.source_lines.specs.Packed.{endings}
use Rattle.source_lines.proofs.packed.ends_in.Given as goal

abbrev pub invariant-loop-k : goal.invariant-loop-k
invariant-loop-k l = (l.n ≡ endings l.s l.p l.k) × (l.n ≤ l.k)
