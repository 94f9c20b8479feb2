use Rattle.std.proofs.Common.{refl, arith}
use Rattle.reader.proofs.Leaves.{count-short, count_at, count-size}
use Rattle.length_leaves.proofs.read_count.Goals as goal

pub returns-in_err-n : goal.returns-in_err-n
returns-in_err-n c = count-short c.in_err-n.was c.from_residual.ensures.1 c.read_u32.ensures

pub counted-requires : goal.counted-requires
counted-requires c = count_at c.requires c.in_ok-n.was c.read_u32.ensures (omega arith) c.bytes.ensures.1

pub returns : goal.returns
returns c = count-size c.in_ok-n.was c.read_u32.ensures refl c.bytes.ensures.0 c.counted.ensures
