use Rattle.number_leaves.proofs.Marks.{version-short, version-no, version-got}
use Rattle.number_leaves.proofs.read_version.Goals as goal

pub returns-in_err-n : goal.returns-in_err-n
returns-in_err-n c = version-short c.in_err-n.was c.from_residual.ensures.1 c.read_u32.ensures

pub returns-then-n-ne24 : goal.returns-then-n-ne24
returns-then-n-ne24 c = version-no c.in_ok-n.was c.read_u32.ensures c.if-n-ne24.true c.refuse.ensures

pub returns : goal.returns
returns c = version-got c.in_ok-n.was c.read_u32.ensures c.if-n-ne24.false
