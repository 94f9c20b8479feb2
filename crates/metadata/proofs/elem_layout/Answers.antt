use Rattle.std.proofs.Common.{arith, refl}
use Rattle.reader.proofs.Recording.{record_lost, lost_here, lost_then, fixed-fits}
use Rattle.metadata.proofs.Shapes.{elem_record}
use Rattle.metadata.proofs.elem_layout.Goals as goal

pub returns-in_err-bytes : goal.returns-in_err-bytes
returns-in_err-bytes c = record_lost refl c.from_residual.ensures.1 (lost_here c.in_err-bytes.was refl c.number.ensures)

pub returns-in_err-extend : goal.returns-in_err-extend
returns-in_err-extend c = record_lost refl c.from_residual-in_err-extend.ensures.1 (lost_then c.in_ok-bytes.was c.number.ensures λ _. lost_here c.in_err-extend.was refl c.number-2.ensures)

pub overflow_cast-kind : goal.overflow_cast-kind
overflow_cast-kind c = record { fits = fixed-fits c.in_ok-bytes.was c.number.ensures (λ i. omega (arith, c.shared_slice_known-1.given i)) }

pub returns : goal.returns
returns c = elem_record _ c.in_ok-bytes.was c.in_ok-extend.was c.number.ensures c.number-2.ensures c.layout.ensures
