use Rattle.std.proofs.Common.{arith}
use Rattle.source_lines.proofs.Skips.{inside-here, inside-more, inside-done}
use Rattle.source_lines.proofs.packed.past_number.Goals as goal

pub bounds-s-at : goal.bounds-s-at
bounds-s-at c = (inside-here c.loop-at.invariant).0

pub loop-at-preserved : goal.loop-at-preserved
loop-at-preserved c = inside-more c.loop-at.invariant c.loop-at-test.true

pub overflow_add-result : goal.overflow_add-result
overflow_add-result c = omega (arith, inside-here c.loop-at.invariant)

pub returns : goal.returns
returns c = inside-done c.loop-at.invariant c.loop-at-test.false
