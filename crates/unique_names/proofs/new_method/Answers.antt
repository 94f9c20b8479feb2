use Rattle.in_place.specs.declared.Item.TheVariants.{NamedMethod}
use Rattle.in_place.proofs.Places.{item-name}
use Rattle.unique_names.proofs.Lists.{method-up, method-lost, method-at, method-again, method-new}
use Rattle.unique_names.proofs.new_method.Goals as goal

pub seen-requires : goal.seen-requires
seen-requires c = method-at c.in_ok-c.was c.in_ok-d.was c.requires

pub repeated-requires : goal.repeated-requires
repeated-requires c = item-name NamedMethod (method-at c.in_ok-c.was c.in_ok-d.was c.requires).here

pub returns-then-seen : goal.returns-then-seen
returns-then-seen c = method-again c.in_ok-c.was c.in_ok-d.was c.requires c.seen.ensures c.if-seen.true c.repeated.ensures

pub returns : goal.returns
returns c = method-new c.in_ok-c.was c.in_ok-d.was c.requires c.seen.ensures c.if-seen.false

pub returns-in_err-d : goal.returns-in_err-d
returns-in_err-d c = method-up c.in_err-d.was c.from_residual.ensures.1

pub returns-in_err-c : goal.returns-in_err-c
returns-in_err-c c = method-lost c.in_err-c.was c.in_ok-d.was
