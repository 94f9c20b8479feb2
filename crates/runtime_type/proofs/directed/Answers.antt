use Rattle.std.proofs.Common.{refl}
use Rattle.reader.specs.Recorded.{recorded}
use Rattle.reader.proofs.Recording.{last_two}
use Rattle.runtime_type.specs.Numbered.{dir_at}
use Rattle.runtime_type.proofs.Laws.{lost_first, lost_second}
use Rattle.runtime_type.proofs.directed.Goals as goal

pub returns-in_err-dir : goal.returns-in_err-dir
returns-in_err-dir c = lost_first c.in_err-dir.was c.from_residual.ensures.1 c.number.ensures

pub returns-in_err-elem : goal.returns-in_err-elem
returns-in_err-elem c = lost_second c.in_ok-dir.was c.number.ensures c.in_err-elem.was c.from_residual-in_err-elem.ensures.1 c.one_rttid.ensures

pub returns : goal.returns
returns c = rw c.chan_dir.ensures.named (recorded (last_two c.in_ok-dir.was c.number.ensures c.in_ok-elem.was c.one_rttid.ensures (λ m n _. (dir_at m, n)) refl))
