use Rattle.calls.proofs.Laws.{ends-refused, ends_at, ends-past}
use Rattle.calls.proofs.ended.Goals as goal

pub returns-in_err-c : goal.returns-in_err-c
returns-in_err-c c = ends-refused c.in_err-c.was c.from_residual.ensures.1

pub returns-then-place-length : goal.returns-then-place-length
returns-then-place-length c = ends_at c.in_ok-c.was c.if-place-length.true

pub returns : goal.returns
returns c = ends-past c.in_ok-c.was c.if-place-length.false
