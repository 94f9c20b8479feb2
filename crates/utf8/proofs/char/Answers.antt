use Rattle.std.proofs.Common.{arith}
use Rattle.utf8.proofs.Laws.{char-start, char-bad, char-short, char-out, char-more, char-done}
use Rattle.utf8.proofs.char.Goals as goal
use Rattle.utf8.proofs.char.Goals.{then-to-i-via-then-to-i, then-to-i-via-else-to-i+then-not-contains}

pub returns-in_err-more : goal.returns-in_err-more
returns-in_err-more c = rw c.from_residual.ensures (char-bad (omega arith) (omega arith) c.in_err-more.ensures)

pub loop-i-init : goal.loop-i-init
loop-i-init c = char-start (omega arith) (omega arith) c.in_ok-more.ensures (omega arith)

pub returns-then-to-i : goal.returns-then-to-i
returns-then-to-i c =
    elim c.then-to-i.branch [
      | then-to-i-via-then-to-i w ↦ char-short (omega arith) w.if-to-i.true c.loop-i.invariant
      | then-to-i-via-else-to-i+then-not-contains w ↦
          let r = w.new.ensures in
          char-out (omega arith) (omega arith) w.if-to-i.false c.loop-i.invariant (rw (r.start, r.end, r.exhausted) at w.if-not-contains.ensures.value)
    ]

pub loop-i-preserved : goal.loop-i-preserved
loop-i-preserved c =
    let r = c.new.ensures in
    char-more (omega arith) (omega arith) c.if-to-i.false c.loop-i.invariant (omega arith) (rw (r.start, r.end, r.exhausted) at c.if-not-contains.ensures.value)

pub returns : goal.returns
returns c = char-done (omega arith) (omega arith) (omega arith) (omega arith) c.loop-i.invariant
