use Rattle.reader.proofs.Laws.{up-refused}
use Rattle.reader.proofs.Parts.{part_not}
use Rattle.externs.proofs.Laws.{externs-none, externs-some}
use Rattle.externs.proofs.externs.Goals as goal

pub returns-in_err-r : goal.returns-in_err-r
returns-in_err-r c = up-refused c.in_err-r.was c.from_residual.ensures.1

pub returns-in_err-n : goal.returns-in_err-n
returns-in_err-n c = part_not c.in_ok-r.was c.in_err-n.was c.from_residual-in_err-n.ensures.1 c.number_count.ensures

pub returns-then-n-ne0 : goal.returns-then-n-ne0
returns-then-n-ne0 c = externs-some c.in_ok-r.was c.in_ok-n.was c.number_count.ensures c.if-n-ne0.true c.refuse.ensures

pub returns : goal.returns
returns c = externs-none c.in_ok-r.was c.in_ok-n.was c.number_count.ensures c.if-n-ne0.false
