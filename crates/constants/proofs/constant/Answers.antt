use Rattle.std.proofs.Common.{arith}
use Rattle.constants.proofs.Laws.{constant-unread, constant-nil, constant-bool, constant-int, constant-float, constant-text}
use Rattle.constants.proofs.constant.Goals as goal

pub returns-in_err-tag : goal.returns-in_err-tag
returns-in_err-tag c = constant-unread c.number.ensures c.in_err-tag.was c.from_residual.ensures.1

pub returns-in-0 : goal.returns-in-0
returns-in-0 c = constant-nil c.number.ensures c.in_ok-tag.was c.in-0.is

pub returns-in-1 : goal.returns-in-1
returns-in-1 c = constant-bool c.number.ensures c.in_ok-tag.was c.in-1.is c.constant_bool.ensures

pub returns-in-2 : goal.returns-in-2
returns-in-2 c = constant-int c.number.ensures c.in_ok-tag.was c.in-2.is c.constant_int.ensures

pub returns-in-3 : goal.returns-in-3
returns-in-3 c = constant-float c.number.ensures c.in_ok-tag.was c.in-3.is c.constant_float.ensures

pub returns-in_default : goal.returns-in_default
returns-in_default c = constant-text c.number.ensures c.in_ok-tag.was (omega arith) (omega arith) (omega arith) (omega arith) c.constant_text.ensures
