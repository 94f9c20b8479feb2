use Rattle.std.proofs.Common.{arith}
use Rattle.source_lines.proofs.Skips.{passing-room, passing-block, passing-number, passing-next, passing-on, passing-done}
use Rattle.source_lines.proofs.packed.past_numbers.Goals as goal

pub ends_in-requires : goal.ends_in-requires
ends_in-requires c = (passing-room c.loop-k.invariant c.loop-k-test.true).0

pub loop-k-preserved : goal.loop-k-preserved
loop-k-preserved c = passing-block c.loop-k.invariant c.loop-k-test.true (rw (← c.from-k.ensures) at c.ends_in.ensures)

pub loop-init : goal.loop-init
loop-init c = passing-on c.loop-k.invariant (omega arith)

pub past_number-at-requires : goal.past_number-at-requires
past_number-at-requires c = passing-number c.loop.invariant (omega arith)

pub loop-preserved : goal.loop-preserved
loop-preserved c = passing-on (passing-next c.loop.invariant (omega arith) c.past_number-at.ensures) (omega arith)

pub returns : goal.returns
returns c = passing-done c.loop.invariant (omega arith)
