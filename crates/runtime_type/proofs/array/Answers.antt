use Rattle.reader.specs.Recorded.{recorded}
use Rattle.reader.proofs.Recording.{last_two}
use Rattle.lists.specs.Records.{bare_of}
use Rattle.runtime_type.specs.declared.RuntimeType.TheVariants as kind
use Rattle.runtime_type.proofs.Laws.{lost_first, lost_second}
use Rattle.runtime_type.proofs.array.Goals as goal

pub returns-in_err-len : goal.returns-in_err-len
returns-in_err-len c = lost_first c.in_err-len.was c.from_residual.ensures.1 c.number_u64.ensures

pub returns-in_err-elem : goal.returns-in_err-elem
returns-in_err-elem c = lost_second c.in_ok-len.was c.number_u64.ensures c.in_err-elem.was c.from_residual-in_err-elem.ensures.1 c.one_rttid.ensures

pub returns : goal.returns
returns c = recorded (last_two c.in_ok-len.was c.number_u64.ensures c.in_ok-elem.was c.one_rttid.ensures (λ m n _. bare_of (kind.Array m n)) c.bare.ensures)
