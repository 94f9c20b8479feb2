use Rattle.std.proofs.Common.{arith}
use Rattle.source_lines.proofs.Skips.{endings-none, endings-more}
use Rattle.source_lines.proofs.packed.ends_in.Goals as goal

pub loop-k-init : goal.loop-k-init
loop-k-init c = (endings-none _ _, omega arith)

pub loop-k-preserved : goal.loop-k-preserved
loop-k-preserved c = (endings-more _ _ _ c.loop-k.invariant.0 c.ends-n.ensures.0, omega (arith, c.loop-k.invariant.1, c.ends-n.ensures.1))
