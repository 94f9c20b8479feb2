use Rattle.reader.proofs.Errors.{handed}
use Rattle.fields.specs.Kept.{kept_part, unkept_part}
use Rattle.fields.proofs.kept_span.Goals as goal

pub returns-in_err-span : goal.returns-in_err-span
returns-in_err-span c = rw (handed c.from_residual.result c.from_residual.ensures.1, c.in_err-span.was) unkept_part

pub returns : goal.returns
returns c = rw c.in_ok-span.was (kept_part c.keep_pair.ensures)
