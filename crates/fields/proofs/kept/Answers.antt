use Rattle.reader.proofs.Errors.{handed}
use Rattle.fields.specs.Kept.{kept_number, unkept}
use Rattle.fields.proofs.kept.Goals as goal

pub returns-in_err-n : goal.returns-in_err-n
returns-in_err-n c = rw (handed c.from_residual.result c.from_residual.ensures.1, c.in_err-n.was) unkept

pub returns : goal.returns
returns c = rw c.in_ok-n.was (kept_number c.keep.ensures)
