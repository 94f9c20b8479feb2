use Rattle.reader.proofs.Laws.{up-refused, at-step, ready_at, number_just, number_lost}
use Rattle.reader.proofs.Accepting.{accepted-at}
use Rattle.lists.proofs.read_list.Goals as goal

pub returns-in_err-r : goal.returns-in_err-r
returns-in_err-r g c = up-refused c.in_err-r.was c.from_residual.ensures.1

pub number_list-requires-clause-ready : goal.number_list-requires-clause-ready
number_list-requires-clause-ready g c = ready_at c.in_ok-r.was c.requires.ready

pub number_list-requires-clause-accepted : goal.number_list-requires-clause-accepted
number_list-requires-clause-accepted g c = accepted-at c.in_ok-r.was c.requires.accepted

pub returns-in_err-d : goal.returns-in_err-d
returns-in_err-d g c = at-step c.in_ok-r.was (number_lost c.in_err-d.was c.from_residual-in_err-d.ensures.1 c.number_list.ensures)

pub returns : goal.returns
returns g c = at-step c.in_ok-r.was (number_just c.in_ok-d.was c.number_list.ensures)
