use Rattle.std.proofs.Common.{refl, arith}
use Rattle.reader.proofs.Leaves.{count-short, count-below, count-size}
use Rattle.length_leaves.proofs.read_method_count.Goals as goal

pub returns-in_err-n : goal.returns-in_err-n
returns-in_err-n c = count-short c.in_err-n.was c.from_residual.ensures.1 c.read_u32.ensures

pub counted-requires : goal.counted-requires
counted-requires c = count-below c.requires c.in_ok-n.was c.read_u32.ensures (omega arith) (omega (arith, c.bytes.ensures.1, c.bytes-2.ensures.1))

pub returns : goal.returns
returns c = count-size c.in_ok-n.was c.read_u32.ensures refl (rw (c.bytes.ensures.0, c.bytes-2.ensures.0)) c.counted.ensures
