use Rattle.reader.proofs.Laws.{up-refused}
use Rattle.reader.proofs.Parts.{part_not, optional-none, optional-some}
use Rattle.debug_info.proofs.optional_span.Goals as goal

pub returns-in_err-r : goal.returns-in_err-r
returns-in_err-r c = up-refused c.in_err-r.was c.from_residual.ensures.1

pub returns-in_err-n : goal.returns-in_err-n
returns-in_err-n c = part_not c.in_ok-r.was c.in_err-n.was c.from_residual-in_err-n.ensures.1 c.number.ensures

pub returns-then-n-eq0 : goal.returns-then-n-eq0
returns-then-n-eq0 c = optional-none c.in_ok-r.was c.in_ok-n.was c.if-n-eq0.true c.number.ensures

pub returns : goal.returns
returns c = optional-some c.in_ok-r.was c.in_ok-n.was c.if-n-eq0.false c.number.ensures c.span.ensures
