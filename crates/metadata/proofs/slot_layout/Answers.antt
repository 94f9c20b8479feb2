use Rattle.std.proofs.Common.{arith, refl}
use Rattle.reader.proofs.Recording.{record_lost, lost_here, fixed-fits}
use Rattle.metadata.proofs.Shapes.{slot_record}
use Rattle.metadata.proofs.slot_layout.Goals as goal

pub returns-in_err-length : goal.returns-in_err-length
returns-in_err-length c = record_lost refl c.from_residual.ensures.1 (lost_here c.in_err-length.was refl c.number.ensures)

pub overflow_cast-kind : goal.overflow_cast-kind
overflow_cast-kind c = record { fits = fixed-fits c.in_ok-length.was c.number.ensures (λ i. omega (arith, c.shared_slice_known-1.given i)) }

pub returns : goal.returns
returns c = slot_record _ c.in_ok-length.was c.number.ensures c.layout.ensures
