use Rattle.constants.proofs.Laws.{signed-unread, int-record}
use Rattle.constants.proofs.constant_int.Goals as goal

pub returns-in_err-value : goal.returns-in_err-value
returns-in_err-value c = signed-unread c.in_err-value.was c.from_residual.ensures.1 c.read_i64.ensures

pub returns : goal.returns
returns c = int-record c.requires c.in_ok-value.was c.read_i64.ensures c.keep_long.ensures
