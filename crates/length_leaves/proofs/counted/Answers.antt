use Rattle.reader.proofs.Leaves.{counted-few, counted-poor, counted-got}
use Rattle.length_leaves.proofs.counted.Goals as goal

pub returns-then-s-place : goal.returns-then-s-place
returns-then-s-place c = counted-few c.requires.ready c.if-s-place.true c.refuse-few.ensures

pub returns-in_err-e : goal.returns-in_err-e
returns-in_err-e c = counted-poor c.requires.ready c.if-s-place.false c.charge_allocation.ensures c.in_err-e.was c.from_residual.ensures.1

pub returns : goal.returns
returns c = counted-got c.requires.ready c.if-s-place.false c.charge_allocation.ensures c.in_ok-e.was
