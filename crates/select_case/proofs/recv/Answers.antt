use Rattle.std.proofs.Common.{arith, eqb, refl}
use Rattle.reader.specs.Recorded.{recorded}
use Rattle.reader.proofs.Recording.{record_lost, lost_here, lost_then, lost_last, last_four, fixed-fits}
use Rattle.select_case.specs.declared.SelectCase.TheVariants.{Recv}
use Rattle.select_case.proofs.recv.Goals as goal

pub returns-in_err-destination : goal.returns-in_err-destination
returns-in_err-destination c = record_lost refl c.from_residual.ensures.1 (lost_here c.in_err-destination.was refl c.number.ensures)

pub returns-in_err-queue : goal.returns-in_err-queue
returns-in_err-queue c = record_lost refl c.from_residual-in_err-queue.ensures.1 (lost_then c.in_ok-destination.was c.number.ensures λ _. lost_here c.in_err-queue.was refl c.number-2.ensures)

pub returns-in_err-slots : goal.returns-in_err-slots
returns-in_err-slots c = record_lost refl c.from_residual-in_err-slots.ensures.1 (lost_then c.in_ok-destination.was c.number.ensures λ _. lost_then c.in_ok-queue.was c.number-2.ensures λ _. lost_here c.in_err-slots.was refl c.number-3.ensures)

pub returns-in_err-ok : goal.returns-in_err-ok
returns-in_err-ok c = record_lost refl c.from_residual-in_err-ok.ensures.1 (lost_then c.in_ok-destination.was c.number.ensures λ _. lost_then c.in_ok-queue.was c.number-2.ensures λ _. lost_then c.in_ok-slots.was c.number-3.ensures λ _. lost_last c.in_err-ok.was refl c.number-4.ensures)

pub overflow_cast-result : goal.overflow_cast-result
overflow_cast-result c = record { fits = fixed-fits c.in_ok-destination.was c.number.ensures (λ i. omega (arith, c.shared_slice_known-1.given i)) }

pub overflow_cast-result-2 : goal.overflow_cast-result-2
overflow_cast-result-2 c = record { fits = fixed-fits c.in_ok-queue.was c.number-2.ensures (λ i. omega (arith, c.shared_slice_known-1.given i)) }

pub overflow_cast-result-3 : goal.overflow_cast-result-3
overflow_cast-result-3 c = record { fits = fixed-fits c.in_ok-slots.was c.number-3.ensures (λ i. omega (arith, c.shared_slice_known-1.given i)) }

pub returns : goal.returns
returns c = recorded (last_four c.in_ok-destination.was c.number.ensures c.in_ok-queue.was c.number-2.ensures c.in_ok-slots.was c.number-3.ensures c.in_ok-ok.was c.number-4.ensures (λ a b k o. Recv a b k (eqb o 1)) refl)
