use Rattle.reader.proofs.Leaves.{leaves, signed-not}
use Rattle.std.proofs.Common.{rules}
use Rattle.reader.proofs.read_i64.Goals as goal

pub returns-in_err-bits : goal.returns-in_err-bits
returns-in_err-bits c = signed-not c.in_err-bits.was c.from_residual.ensures.1 c.read_u64.ensures

pub returns : goal.returns
returns c = search (rules, leaves)
