use Rattle.reader.proofs.Laws.{up-refused, at-step}
use Rattle.reader.proofs.Recording.{record_just, record_not}
use Rattle.select_case.proofs.CaseEntry.read.Goals as goal

pub returns-in_err-r : goal.returns-in_err-r
returns-in_err-r c = up-refused c.in_err-r.was c.from_residual.ensures.1

pub returns-in_err-d : goal.returns-in_err-d
returns-in_err-d c = at-step c.in_ok-r.was (record_not c.in_err-d.was c.from_residual-in_err-d.ensures.1 c.select_case.ensures)

pub returns : goal.returns
returns c = at-step c.in_ok-r.was (record_just c.in_ok-d.was c.select_case.ensures)
