use Rattle.reader.proofs.Laws.{got-ready}
use Rattle.reader.proofs.Numbering.{numbered_not, numbered_items, numbered_refused}
use Rattle.lists.proofs.Listed.{accepted-entries}
use Rattle.lists.proofs.number_list.Goals as goal

pub returns-in_err-n : goal.returns-in_err-n
returns-in_err-n g c = numbered_not c.in_err-n.was c.from_residual.ensures.1 c.number_count.ensures

pub entries-requires-clause-ready : goal.entries-requires-clause-ready
entries-requires-clause-ready g c = got-ready c.in_ok-n.was c.number_count.ensures

pub entries-requires-clause-accepted : goal.entries-requires-clause-accepted
entries-requires-clause-accepted g c = accepted-entries _ c.in_ok-n.was c.number_count.ensures c.requires.accepted

pub returns-in_err-e : goal.returns-in_err-e
returns-in_err-e g c = numbered_refused c.in_ok-n.was c.number_count.ensures _ c.in_err-e.was c.from_residual-in_err-e.ensures.1 c.entries.ensures

pub returns : goal.returns
returns g c = numbered_items c.in_ok-n.was c.number_count.ensures _ c.in_ok-e.was c.entries.ensures
