use Rattle.length_leaves.proofs.Texts.{text-then, text-not, text-up, spans-room, checked-tried}
use Rattle.length_leaves.proofs.read_string.Goals as goal

pub returns-in_err-span : goal.returns-in_err-span
returns-in_err-span c = text-not c.in_err-span.was c.from_residual.ensures.1 c.read_bytes.ensures

pub returns-in-Some : goal.returns-in-Some
returns-in-Some c =
    let room = spans-room c.in_ok-span.was c.read_bytes.ensures in
    text-then c.in_ok-span.ensures (checked-tried room c.in-Some.is c.try_short.ensures)

pub text-requires : goal.text-requires
text-requires c = spans-room c.in_ok-span.was c.read_bytes.ensures

pub returns-in_err-found : goal.returns-in_err-found
returns-in_err-found c = text-up c.in_err-found.was c.from_residual-in_err-found.ensures.1 (text-then c.in_ok-span.ensures c.text.ensures)

pub returns : goal.returns
returns c = rw c.in_ok-found.was at (text-then c.in_ok-span.ensures c.text.ensures)
