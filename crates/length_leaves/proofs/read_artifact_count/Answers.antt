use Rattle.std.proofs.Common.{arith}
use Rattle.reader.proofs.Leaves.{count-short, count_at}
use Rattle.length_leaves.proofs.Limits.{limit-kept, limit-over}
use Rattle.length_leaves.proofs.read_artifact_count.Goals as goal

pub returns-in_err-n : goal.returns-in_err-n
returns-in_err-n c = count-short c.in_err-n.was c.from_residual.ensures.1 c.read_u32.ensures

pub returns-then-most-n : goal.returns-then-most-n
returns-then-most-n c = limit-over c.in_ok-n.was c.read_u32.ensures c.artifacts-most.ensures c.if-most-n.true c.over.ensures

pub counted-requires : goal.counted-requires
counted-requires c = count_at c.requires c.in_ok-n.was c.read_u32.ensures (omega arith) c.bytes.ensures.1

pub returns : goal.returns
returns c = limit-kept c.in_ok-n.was c.read_u32.ensures c.artifacts-most.ensures c.if-most-n.false c.bytes.ensures.0 c.counted.ensures
