use Rattle.std.proofs.Common.{arith, refl}
use Rattle.reader.proofs.Recording.{record_lost, lost_here, lost_then, fixed-fits}
use Rattle.metadata.proofs.Shapes.{call_iface_record}
use Rattle.metadata.proofs.call_iface_layout.Goals as goal

pub returns-in_err-id : goal.returns-in_err-id
returns-in_err-id c = record_lost refl c.from_residual.ensures.1 (lost_here c.in_err-id.was refl c.number.ensures)

pub returns-in_err-method : goal.returns-in_err-method
returns-in_err-method c = record_lost refl c.from_residual-in_err-method.ensures.1 (lost_then c.in_ok-id.was c.number.ensures λ _. lost_here c.in_err-method.was refl c.number-2.ensures)

pub overflow_cast-kind : goal.overflow_cast-kind
overflow_cast-kind c = record { fits = fixed-fits c.in_ok-id.was c.number.ensures (λ i. omega (arith, c.shared_slice_known-1.given i)) }

pub overflow_cast-kind-2 : goal.overflow_cast-kind-2
overflow_cast-kind-2 c = record { fits = fixed-fits c.in_ok-method.was c.number-2.ensures (λ i. omega (arith, c.shared_slice_known-1.given i)) }

pub returns : goal.returns
returns c = call_iface_record _ c.in_ok-id.was c.in_ok-method.was c.number.ensures c.number-2.ensures c.layouts.ensures
