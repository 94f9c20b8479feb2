use Rattle.std.proofs.Common.{arith}
use Rattle.named_types.proofs.Laws.{unjudged-start, unjudged-done, unjudged-behind, unjudged-last, unjudged-refused, unjudged-more}
use Rattle.named_types.proofs.read_methods.Goals as goal

pub loop-i-init : goal.loop-i-init
loop-i-init c = unjudged-start c.requires

pub new_method-step-requires : goal.new_method-step-requires
new_method-step-requires c = unjudged-behind c.loop-i.invariant c.loop-i-test.true c.method-read.ensures

pub returns-then-i-first : goal.returns-then-i-first
returns-then-i-first c = unjudged-last c.loop-i.invariant c.loop-i-test.true c.method-read.ensures c.if-i-first.true c.new_method-step.ensures

pub returns-in_default : goal.returns-in_default
returns-in_default c = unjudged-refused c.loop-i.invariant c.loop-i-test.true c.method-read.ensures c.if-i-first.false c.in_default.is

pub loop-i-preserved : goal.loop-i-preserved
loop-i-preserved c = unjudged-more c.loop-i.invariant c.loop-i-test.true c.method-read.ensures c.if-i-first.false c.in-Ok.is c.method-read.auto.tape

pub returns : goal.returns
returns c = unjudged-done c.loop-i.invariant (omega arith)
