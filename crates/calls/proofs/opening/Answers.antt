use Rattle.calls.proofs.Laws.{opens-long, opens-past, opens_at}
use Rattle.calls.proofs.opening.Goals as goal

pub returns-then-n-gt-MAX_PACK_BYTES : goal.returns-then-n-gt-MAX_PACK_BYTES
returns-then-n-gt-MAX_PACK_BYTES c = opens-long c.if-n-gt-MAX_PACK_BYTES.true

pub returns-then-n-place : goal.returns-then-n-place
returns-then-n-place c = opens-past c.if-n-gt-MAX_PACK_BYTES.false c.if-n-place.true

pub returns : goal.returns
returns c = opens_at c.if-n-gt-MAX_PACK_BYTES.false c.if-n-place.false
