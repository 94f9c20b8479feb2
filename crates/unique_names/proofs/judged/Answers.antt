use Rattle.std.proofs.Common.{arith}
use Rattle.in_place.proofs.Asking.{asks-up}
use Rattle.unique_names.proofs.Asking.{judging-start, judging-here, judging-done, judging-poor, judging-repeat, judging-more}
use Rattle.unique_names.proofs.judged.Goals as goal

pub loop-i-init : goal.loop-i-init
loop-i-init c = judging-start c.requires.0

pub charge_key-requires : goal.charge_key-requires
charge_key-requires c = judging-here c.loop-i.invariant c.loop-i-test.true

pub returns-in_err-here : goal.returns-in_err-here
returns-in_err-here c = asks-up c.in_err-here.was c.from_residual.ensures.1 (judging-poor c.loop-i.invariant c.loop-i-test.true c.charge_key.ensures c.in_err-here.was)

pub refuse_repeat-requires : goal.refuse_repeat-requires
refuse_repeat-requires c = judging-here c.loop-i.invariant c.loop-i-test.true

pub returns-then-i-first : goal.returns-then-i-first
returns-then-i-first c = judging-repeat c.loop-i.invariant c.loop-i-test.true c.charge_key.ensures c.requires.1 c.in_ok-here.was c.if-i-first.true c.refuse_repeat.ensures

pub past_item-p-requires : goal.past_item-p-requires
past_item-p-requires c = judging-here c.loop-i.invariant c.loop-i-test.true

pub loop-i-preserved : goal.loop-i-preserved
loop-i-preserved c = judging-more c.loop-i.invariant c.loop-i-test.true c.charge_key.ensures c.requires.1 c.in_ok-here.was c.if-i-first.false c.past_item-p.ensures

pub returns : goal.returns
returns c = judging-done c.loop-i.invariant (omega arith)
