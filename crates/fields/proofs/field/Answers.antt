use Rattle.reader.proofs.Laws.{up-refused, at-step, ready_at, number_just, number_lost}
use Rattle.fields.proofs.field.Goals as goal

pub returns-in_err-r : goal.returns-in_err-r
returns-in_err-r g c = up-refused c.in_err-r.was c.from_residual.ensures.1

pub number-requires : goal.number-requires
number-requires g c = ready_at c.in_ok-r.was c.requires

pub returns-in_err-d : goal.returns-in_err-d
returns-in_err-d g c = at-step c.in_ok-r.was (number_lost c.in_err-d.was c.from_residual-in_err-d.ensures.1 c.number.ensures)

pub returns : goal.returns
returns g c = at-step c.in_ok-r.was (number_just c.in_ok-d.was c.number.ensures)
