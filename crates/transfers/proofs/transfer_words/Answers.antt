use Rattle.in_place.proofs.Asking.{list-up, list-lost, list-asked, list-room, list-items}
use Rattle.transfers.proofs.Words.{transfers-asked}
use Rattle.transfers.proofs.transfer_words.Goals as goal

pub returns-in_err-d : goal.returns-in_err-d
returns-in_err-d c = list-up c.in_err-d.was c.from_residual.ensures.1

pub returns-in_err-c : goal.returns-in_err-c
returns-in_err-c c = list-lost c.in_err-c.was c.in_ok-d.was

pub word_at-n-requires : goal.word_at-n-requires
word_at-n-requires c = list-room c.in_ok-c.was c.in_ok-d.was c.requires.0

pub transfers-requires : goal.transfers-requires
transfers-requires c = (list-items c.in_ok-c.was c.in_ok-d.was c.requires.0 c.word_at-n.ensures, rw c.from.ensures c.requires.1)

pub returns : goal.returns
returns c = list-asked c.in_ok-c.was c.in_ok-d.was c.word_at-n.ensures (transfers-asked _ _ (rw c.from.ensures at c.transfers.ensures))
