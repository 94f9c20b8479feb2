use Rattle.constants.proofs.Laws.{float-unread, float-record}
use Rattle.constants.proofs.constant_float.Goals as goal

pub returns-in_err-value : goal.returns-in_err-value
returns-in_err-value c = float-unread c.in_err-value.was c.from_residual.ensures.1 c.read_f64.ensures

pub returns : goal.returns
returns c = float-record c.requires c.in_ok-value.was c.read_f64.ensures c.keep_long.ensures
