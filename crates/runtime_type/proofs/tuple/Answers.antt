use Rattle.std.proofs.Common.{refl}
use Rattle.reader.specs.Recorded.{recorded}
use Rattle.reader.proofs.Recording.{recorded_last}
use Rattle.runtime_type.proofs.Laws.{lost_only, listed}
use Rattle.runtime_type.specs.Records.{listed_at}
use Rattle.runtime_type.specs.declared.RuntimeType.TheVariants as kind
use Rattle.runtime_type.proofs.tuple.Goals as goal

pub returns-in_err-n : goal.returns-in_err-n
returns-in_err-n c = lost_only c.in_err-n.was c.from_residual.ensures.1 c.number_rttids.ensures

pub returns : goal.returns
returns c = recorded (recorded_last c.in_ok-n.was c.number_rttids.ensures (λ n p. listed_at kind.Tuple p n) (listed c.list_at.ensures refl))
