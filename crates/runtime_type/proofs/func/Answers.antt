use Rattle.std.proofs.Common.{◌+◌, eqb}
use Rattle.reader.specs.Recorded.{recorded}
use Rattle.reader.proofs.Recording.{record_lost, lost_here, lost_last, lost_then, last_three, fixed-place}
use Rattle.runtime_type.proofs.Laws.{lost_first, listed_two, rttids-place}
use Rattle.runtime_type.specs.Records.{two_of}
use Rattle.runtime_type.specs.declared.RuntimeType.TheVariants as kind
use Rattle.std.proofs.Common.{refl}
use Rattle.runtime_type.proofs.func.Goals as goal

pub returns-in_err-variadic : goal.returns-in_err-variadic
returns-in_err-variadic c = lost_first c.in_err-variadic.was c.from_residual.ensures.1 c.number.ensures

pub returns-in_err-params : goal.returns-in_err-params
returns-in_err-params c = record_lost refl c.from_residual-in_err-params.ensures.1 (lost_then c.in_ok-variadic.was c.number.ensures (λ _. lost_here c.in_err-params.was refl c.number_rttids.ensures))

pub returns-in_err-results : goal.returns-in_err-results
returns-in_err-results c = record_lost refl c.from_residual-in_err-results.ensures.1 (lost_then c.in_ok-variadic.was c.number.ensures (λ _. lost_then c.in_ok-params.was c.number_rttids.ensures (λ _. lost_last c.in_err-results.was refl c.number_rttids-2.ensures)))

pub returns : goal.returns
returns c = recorded (last_three c.in_ok-variadic.was c.number.ensures c.in_ok-params.was c.number_rttids.ensures c.in_ok-results.was c.number_rttids-2.ensures (λ a m n p. two_of (kind.Func (eqb a 1)) (p + 1) m n) (listed_two c.list_at.ensures c.list_at-2.ensures (fixed-place c.in_ok-variadic.was c.number.ensures) (rttids-place _ c.in_ok-params.was c.number_rttids.ensures)))
