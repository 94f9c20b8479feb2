use Rattle.in_place.proofs.Asking.{asks-up, list-up, list-lost, list-asked, list-room, list-items}
use Rattle.unique_names.proofs.Lists.{charge-poor, charge-then}
use Rattle.unique_names.proofs.Accepting.{accepted-asks}
use Rattle.unique_names.proofs.asked.Goals as goal

pub returns-in_err-d : goal.returns-in_err-d
returns-in_err-d c = list-up c.in_err-d.was c.from_residual.ensures.1

pub returns-in_err-c : goal.returns-in_err-c
returns-in_err-c c = list-lost c.in_err-c.was c.in_ok-d.was

pub word_at-n-requires : goal.word_at-n-requires
word_at-n-requires c = list-room c.in_ok-c.was c.in_ok-d.was c.requires.0

pub table_charge-charge-requires : goal.table_charge-charge-requires
table_charge-charge-requires c = (list-items c.in_ok-c.was c.in_ok-d.was c.requires.0 c.word_at-n.ensures, c.word_at-n.ensures.below)

pub returns-in_err-e : goal.returns-in_err-e
returns-in_err-e c = list-asked c.in_ok-c.was c.in_ok-d.was c.word_at-n.ensures (asks-up c.in_err-e.was c.from_residual-in_err-e.ensures.1 (charge-poor c.table_charge-charge.ensures c.charge_allocation.ensures c.in_err-e.was))

pub distinct-requires : goal.distinct-requires
distinct-requires c = (list-items c.in_ok-c.was c.in_ok-d.was c.requires.0 c.word_at-n.ensures, c.table_charge-charge.ensures.cost, accepted-asks c.requires.1 c.in_ok-c.was c.in_ok-d.was (λ x a. list-asked c.in_ok-c.was c.in_ok-d.was c.word_at-n.ensures (charge-then c.table_charge-charge.ensures c.charge_allocation.ensures c.in_ok-e.was a)))

pub returns : goal.returns
returns c = list-asked c.in_ok-c.was c.in_ok-d.was c.word_at-n.ensures (charge-then c.table_charge-charge.ensures c.charge_allocation.ensures c.in_ok-e.was c.distinct.ensures)
