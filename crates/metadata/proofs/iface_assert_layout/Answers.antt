use Rattle.std.proofs.Common.{arith, refl}
use Rattle.reader.proofs.Recording.{record_lost, lost_here, lost_then, fixed-fits}
use Rattle.reader.proofs.Parts.{tag-most-bare}
use Rattle.metadata.proofs.Shapes.{assert_record}
use Rattle.metadata.proofs.iface_assert_layout.Goals as goal

pub returns-in_err-assert : goal.returns-in_err-assert
returns-in_err-assert c = record_lost refl c.from_residual.ensures.1 (lost_here c.in_err-assert.was refl c.number.ensures)

pub returns-in_err-target : goal.returns-in_err-target
returns-in_err-target c = record_lost refl c.from_residual-in_err-target.ensures.1 (lost_then c.in_ok-assert.was c.number.ensures λ _. lost_here c.in_err-target.was refl c.number-2.ensures)

pub overflow_cast-kind : goal.overflow_cast-kind
overflow_cast-kind c = omega (arith, tag-most-bare c.in_ok-assert.was c.number.ensures)

pub overflow_cast-kind-2 : goal.overflow_cast-kind-2
overflow_cast-kind-2 c = record { fits = fixed-fits c.in_ok-target.was c.number-2.ensures (λ i. omega (arith, c.shared_slice_known-1.given i)) }

pub returns : goal.returns
returns c = assert_record _ c.in_ok-assert.was c.in_ok-target.was c.number.ensures c.number-2.ensures c.layout.ensures
