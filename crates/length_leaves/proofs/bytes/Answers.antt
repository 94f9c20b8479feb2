use Rattle.reader.proofs.Leaves.{bytes-few, bytes-poor, bytes-got}
use Rattle.length_leaves.proofs.bytes.Goals as goal

pub returns-then-s-start : goal.returns-then-s-start
returns-then-s-start c = bytes-few c.requires c.if-s-start.true c.refuse.ensures

pub returns-in_err-e : goal.returns-in_err-e
returns-in_err-e c = bytes-poor c.requires c.if-s-start.false c.charge_allocation.ensures c.in_err-e.was c.from_residual.ensures.1

pub returns : goal.returns
returns c = bytes-got c.requires c.if-s-start.false c.charge_allocation.ensures c.in_ok-e.was
