use Rattle.std.proofs.Common.{arith}
use Rattle.utf8_parts.proofs.Bytes.{kept_high}
use Rattle.utf8_parts.proofs.kept.Goals as goal

pub returns : goal.returns
returns c = λ h k. kept_high c.args.x c.args.w (omega arith) (omega arith) h k
