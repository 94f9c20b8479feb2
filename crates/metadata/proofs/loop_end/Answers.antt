use Rattle.std.proofs.Common.{arith, refl}
use Rattle.reader.proofs.Recording.{record_lost, lost_last, recorded_last, fixed-fits}
use Rattle.reader.specs.Recorded.{recorded}
use Rattle.lists.specs.Records.{bare_of}
use Rattle.metadata.specs.declared.Metadata.TheVariants as kind
use Rattle.metadata.proofs.loop_end.Goals as goal

pub returns-in_err-pc : goal.returns-in_err-pc
returns-in_err-pc c = record_lost refl c.from_residual.ensures.1 (lost_last c.in_err-pc.was refl c.number.ensures)

pub overflow_cast-pc : goal.overflow_cast-pc
overflow_cast-pc c = record { fits = fixed-fits c.in_ok-pc.was c.number.ensures (λ i. omega (arith, c.shared_slice_known-1.given i)) }

pub returns : goal.returns
returns c = recorded (recorded_last c.in_ok-pc.was c.number.ensures (λ n _. bare_of (kind.LoopEnd n)) c.bare.ensures)
