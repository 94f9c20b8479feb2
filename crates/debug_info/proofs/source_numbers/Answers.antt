use Rattle.std.proofs.Common.{refl}
use Rattle.lists.proofs.Items.{turns-run}
use Rattle.reader.proofs.Errors.{handed}
use Rattle.reader.proofs.Laws.{turns_more, comes_then, turns-refused, turns-done}
use Rattle.debug_info.proofs.source_numbers.Goals as goal

pub returns-in_err-d : goal.returns-in_err-d
returns-in_err-d c = rw (handed _ c.from_residual.ensures.1) (comes_then c.short_run-first.ensures.0 (turns-refused c.loop-k-test.true c.loop-k.invariant (rw c.in_err-d.was at c.field.ensures) refl))

pub loop-k-preserved : goal.loop-k-preserved
loop-k-preserved c = turns-run refl (turns_more c.loop-k-test.true c.loop-k.invariant (rw c.in_ok-d.was at c.field.ensures) c.field.auto.tape) c.short_run-run.ensures.0 c.short_run-run.auto.tape

pub returns : goal.returns
returns c = comes_then c.short_run-first.ensures.0 (turns-done c.loop-k-test.false c.loop-k.invariant)
