use Rattle.std.proofs.Common.{refl, ◌∙◌, ◌≡◌}
use Rattle.reader.proofs.Laws.{up-refused, at-step, ready_at, number_just, number_lost}
use Rattle.slots.proofs.Laws.{keeps-good, keeps-other, good-list}
use Rattle.slots.proofs.slot_types.Goals as goal
use Rattle.slots.proofs.slot_types.Goals.{then-size-left+else-n-gt0, else-size-left}

pub returns-in_err-c : goal.returns-in_err-c
returns-in_err-c c = up-refused c.in_err-c.was c.from_residual.ensures.1

pub returns-then-n-gt0 : goal.returns-then-n-gt0
returns-then-n-gt0 c = at-step c.in_ok-c.was (number_just refl (good-list (ready_at c.in_ok-c.was c.requires) c.bytes-size.ensures.0 c.if-size-left.true (keeps-good c.if-n-gt0.true c.short-n.ensures) refl))

pub returns-in_err-d : goal.returns-in_err-d
returns-in_err-d c =
    let same : c.if-size-left.tape ≡ c.args.tape.now = elim c.if-size-left.branch [ then-size-left+else-n-gt0 w ↦ w.tape-is ∙ keeps-other w.if-n-gt0.false w.short-n.ensures | else-size-left w ↦ w.tape-is ] in
    at-step c.in_ok-c.was (number_lost c.in_err-d.was c.from_residual-in_err-d.ensures.1 (rw same at c.number_any.ensures))

pub returns : goal.returns
returns c =
    let same : c.if-size-left.tape ≡ c.args.tape.now = elim c.if-size-left.branch [ then-size-left+else-n-gt0 w ↦ w.tape-is ∙ keeps-other w.if-n-gt0.false w.short-n.ensures | else-size-left w ↦ w.tape-is ] in
    at-step c.in_ok-c.was (number_just c.in_ok-d.was (rw same at c.number_any.ensures))
