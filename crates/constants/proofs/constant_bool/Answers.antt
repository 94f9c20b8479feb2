use Rattle.constants.proofs.Laws.{number-unread, bool-record}
use Rattle.constants.proofs.constant_bool.Goals as goal

pub returns-in_err-n : goal.returns-in_err-n
returns-in_err-n c = number-unread c.in_err-n.was c.from_residual.ensures.1 c.number.ensures

pub returns : goal.returns
returns c = bool-record c.in_ok-n.was c.number.ensures
