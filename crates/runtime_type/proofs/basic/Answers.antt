use Rattle.reader.specs.Recorded.{recorded}
use Rattle.reader.proofs.Recording.{recorded_last}
use Rattle.runtime_type.specs.Numbered.{kind_at}
use Rattle.lists.specs.Records.{bare_of}
use Rattle.runtime_type.specs.declared.RuntimeType.TheVariants as kind
use Rattle.runtime_type.proofs.Laws.{lost_only}
use Rattle.runtime_type.proofs.basic.Goals as goal

pub returns-in_err-kind : goal.returns-in_err-kind
returns-in_err-kind c = lost_only c.in_err-kind.was c.from_residual.ensures.1 c.number.ensures

pub returns : goal.returns
returns c = recorded (recorded_last c.in_ok-kind.was c.number.ensures (λ n _. bare_of (kind.Basic (kind_at n))) (rw c.value_kind.ensures.named at c.bare.ensures))
