use Rattle.reader.specs.Leaves.{narrow_byte}
use Rattle.std.proofs.lemmas.Bool.{lt-leb, le-leb}
use Rattle.reader.proofs.Leaves.{fixed-short, fixed_no, fixed-got}
use Rattle.number_leaves.proofs.read_small.Goals as goal

pub returns-in_err-n : goal.returns-in_err-n
returns-in_err-n c = fixed-short c.in_err-n.was c.from_residual.ensures.1 c.read_u8.ensures

pub returns-then-most-n : goal.returns-then-most-n
returns-then-most-n c = fixed_no c.in_ok-n.was c.read_u8.ensures (lt-leb _ _ c.if-most-n.true) c.refuse.ensures

pub returns : goal.returns
returns c = fixed-got c.in_ok-n.was c.read_u8.ensures narrow_byte (le-leb _ _ c.if-most-n.false)
