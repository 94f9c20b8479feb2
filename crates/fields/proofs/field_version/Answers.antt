use Rattle.reader.proofs.Laws.{up-refused, at-step, ready_at}
use Rattle.reader.proofs.Keeping.{mark-read}
use Rattle.fields.proofs.field_version.Goals as goal

pub returns-in_err-r : goal.returns-in_err-r
returns-in_err-r c = up-refused c.in_err-r.was c.from_residual.ensures.1

pub read_version-requires : goal.read_version-requires
read_version-requires c = ready_at c.in_ok-r.was c.requires

pub returns : goal.returns
returns c = at-step c.in_ok-r.was (mark-read (ready_at c.in_ok-r.was c.requires) c.read_version.ensures)
