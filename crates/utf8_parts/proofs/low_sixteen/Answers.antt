use Rattle.std.proofs.Common.{arith}
use Rattle.utf8_parts.proofs.Bytes.{lows-more}
use Rattle.utf8_parts.proofs.low_sixteen.Goals as goal

pub loop-k-preserved : goal.loop-k-preserved
loop-k-preserved c = lows-more (omega arith) (omega arith) (omega arith) c.loop-k.invariant c.kept-bits.ensures
