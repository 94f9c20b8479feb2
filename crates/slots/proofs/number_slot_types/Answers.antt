use Rattle.std.proofs.Common.{refl}
use Rattle.slots.proofs.Laws.{keeps-good, good-list}
use Rattle.slots.proofs.number_slot_types.Goals as goal

pub returns-then-n-gt0 : goal.returns-then-n-gt0
returns-then-n-gt0 c = good-list c.requires c.bytes-size.ensures.0 c.if-size-left.true (keeps-good c.if-n-gt0.true c.short-n.ensures) refl
