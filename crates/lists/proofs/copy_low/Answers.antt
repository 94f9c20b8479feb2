use Rattle.std.proofs.Common.{arith}
use Rattle.lists.proofs.Lows.{copied-start, copied_more}
use Rattle.lists.proofs.copy_low.Goals as goal

pub loop-i-init : goal.loop-i-init
loop-i-init c = copied-start

pub loop-i-preserved : goal.loop-i-preserved
loop-i-preserved c = copied_more (omega arith) (c.one_above.ensures c.if-one_above.false) c.copy_bytes.ensures c.loop-i.invariant
