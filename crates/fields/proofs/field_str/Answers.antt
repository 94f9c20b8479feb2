use Rattle.reader.proofs.Laws.{up-refused, at-step, ready_at}
use Rattle.fields.proofs.Keeps.{part-just, part-lost}
use Rattle.fields.proofs.field_str.Goals as goal

pub returns-in_err-r : goal.returns-in_err-r
returns-in_err-r c = up-refused c.in_err-r.was c.from_residual.ensures.1

pub span_str-requires : goal.span_str-requires
span_str-requires c = ready_at c.in_ok-r.was c.requires

pub returns-in_err-d : goal.returns-in_err-d
returns-in_err-d c = at-step c.in_ok-r.was (part-lost c.in_err-d.was c.from_residual-in_err-d.ensures.1 c.span_str.ensures)

pub returns : goal.returns
returns c = at-step c.in_ok-r.was (part-just c.in_ok-d.was c.span_str.ensures)
