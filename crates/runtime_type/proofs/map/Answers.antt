use Rattle.reader.specs.Recorded.{recorded}
use Rattle.reader.proofs.Recording.{last_two}
use Rattle.lists.specs.Records.{bare_of}
use Rattle.runtime_type.specs.declared.RuntimeType.TheVariants as kind
use Rattle.runtime_type.proofs.Laws.{lost_first, lost_second}
use Rattle.runtime_type.proofs.map.Goals as goal

pub returns-in_err-key : goal.returns-in_err-key
returns-in_err-key c = lost_first c.in_err-key.was c.from_residual.ensures.1 c.one_rttid.ensures

pub returns-in_err-val : goal.returns-in_err-val
returns-in_err-val c = lost_second c.in_ok-key.was c.one_rttid.ensures c.in_err-val.was c.from_residual-in_err-val.ensures.1 c.one_rttid-2.ensures

pub returns : goal.returns
returns c = recorded (last_two c.in_ok-key.was c.one_rttid.ensures c.in_ok-val.was c.one_rttid-2.ensures (λ m n _. bare_of (kind.Map m n)) c.bare.ensures)
