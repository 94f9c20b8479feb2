use Rattle.reader.proofs.Numbering.{numbered_not}
use Rattle.unique_names.proofs.Accepting.{accepted-list}
use Rattle.runtime_members.proofs.Laws.{list_behind, list_reads, list_asked, list_denied}
use Rattle.runtime_members.proofs.number_new_methods.Goals as goal

pub returns-in_err-n : goal.returns-in_err-n
returns-in_err-n c = numbered_not c.in_err-n.was c.from_residual.ensures.1 c.number_list.ensures

pub asked-requires : goal.asked-requires
asked-requires c = (list_behind c.in_ok-n.was c.requires.0 c.number_list.ensures, accepted-list (λ x a. list_reads c.in_ok-n.was c.number_list.ensures a) c.requires.1)

pub returns-in_err-e : goal.returns-in_err-e
returns-in_err-e c = list_denied c.in_ok-n.was c.number_list.ensures c.asked.ensures c.in_err-e.was c.from_residual-in_err-e.ensures.1

pub returns : goal.returns
returns c = list_asked c.in_ok-n.was c.number_list.ensures c.asked.ensures c.in_ok-e.was
