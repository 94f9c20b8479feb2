use Rattle.calls.proofs.Laws.{closes-refused, closes-short, closes-taken}
use Rattle.std.proofs.Common.{arith}
use Rattle.calls.proofs.closed.Goals as goal

pub returns-in_err-c : goal.returns-in_err-c
returns-in_err-c c = closes-refused c.in_err-c.was c.from_residual.ensures.1

pub returns-then-room-words : goal.returns-then-room-words
returns-then-room-words c = closes-short c.in_ok-c.was c.if-room-words.true

pub returns : goal.returns
returns c = closes-taken c.in_ok-c.was (omega (arith, c.if-room-words.false))
