use Rattle.std.proofs.Common.{arith}
use Rattle.reader.proofs.Errors.{handed}
use Rattle.reader.proofs.Recording.{fixed-fits}
use Rattle.runtime_type.proofs.one_rttid.Goals as goal

pub returns-in_err-n : goal.returns-in_err-n
returns-in_err-n c = rw (handed _ c.from_residual.ensures.1) (rw c.in_err-n.was at c.number.ensures)

pub overflow_cast-result : goal.overflow_cast-result
overflow_cast-result c = record { fits = fixed-fits c.in_ok-n.was c.number.ensures (λ i. omega (arith, c.type_inv.s i)) }

pub returns : goal.returns
returns c = rw c.in_ok-n.was at c.number.ensures
