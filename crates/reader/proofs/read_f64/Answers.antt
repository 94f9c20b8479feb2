use Rattle.reader.proofs.Leaves.{float_got, float-not}
use Rattle.reader.proofs.read_f64.Goals as goal

pub returns-in_err-bits : goal.returns-in_err-bits
returns-in_err-bits c = float-not c.in_err-bits.was c.from_residual.ensures.1 c.read_u64.ensures

pub returns : goal.returns
returns c = float_got c.in_ok-bits.was c.read_u64.ensures c.f64_of-value.ensures
