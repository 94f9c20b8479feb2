use Rattle.reader.specs.Leaves.{narrow_byte}
use Rattle.std.proofs.Common.{arith}
use Rattle.reader.proofs.Leaves.{fixed-short, fixed_no, fixed-got, tag-low, tag-gap, tag-above, tag-high}
use Rattle.number_leaves.proofs.read_metadata_tag.Goals as goal
use Rattle.number_leaves.proofs.read_metadata_tag.Goals.{in_default-via-then-n-lt9, in_default-via-else-n-lt9+else-n-lt19}

pub returns-in_err-n : goal.returns-in_err-n
returns-in_err-n c = fixed-short c.in_err-n.was c.from_residual.ensures.1 c.read_u8.ensures

pub returns-in_default : goal.returns-in_default
returns-in_default c =
    elim c.in_default.branch [
      | in_default-via-then-n-lt9 w ↦ fixed_no c.in_ok-n.was c.read_u8.ensures (tag-gap _ (omega arith) (omega arith)) c.refuse.ensures
      | in_default-via-else-n-lt9+else-n-lt19 w ↦ fixed_no c.in_ok-n.was c.read_u8.ensures (tag-above _ (omega arith) (omega arith) (omega arith)) c.refuse.ensures
    ]

pub returns-in-0-to-5 : goal.returns-in-0-to-5
returns-in-0-to-5 c = fixed-got c.in_ok-n.was c.read_u8.ensures narrow_byte (tag-low _ (omega arith))

pub returns-in-0-to-5-2 : goal.returns-in-0-to-5-2
returns-in-0-to-5-2 c = fixed-got c.in_ok-n.was c.read_u8.ensures narrow_byte (tag-high _ (omega arith) (omega arith) (omega arith))
