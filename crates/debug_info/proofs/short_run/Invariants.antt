use Rattle.std.proofs.Common.{◌≤◌, ◌≡◌, length}
use Rattle.vob24.specs.Leaves.{source_u32}
use Rattle.lists.specs.Runs.{Runs}
use Rattle.debug_info.proofs.short_run.Given as goal

abbrev pub invariant-loop-k : goal.invariant-loop-k
invariant-loop-k l = Runs source_u32 l.s l.initial.here l.initial.tape l.n (record { items = l.k; at = l.here }) l.tape × (l.k ≤ l.n) × (length l.tape ≡ length l.initial.tape)

abbrev pub decreases-loop-k : goal.decreases-loop-k
decreases-loop-k l = l.k
