use Rattle.std.proofs.Common.{arith}
use Rattle.in_place.proofs.Places.{option-room, option-absent, option-text, option-present}
use Rattle.in_place.proofs.past_optional_text.Goals as goal

pub bounds-s-p : goal.bounds-s-p
bounds-s-p c = omega (arith, option-room c.requires)

pub overflow_add-result : goal.overflow_add-result
overflow_add-result c = omega (arith, option-room c.requires, c.requires.small)

pub past_text-requires : goal.past_text-requires
past_text-requires c = option-text c.requires c.if-s-p-eq0.false

pub returns-then-s-p-eq0 : goal.returns-then-s-p-eq0
returns-then-s-p-eq0 c = option-absent c.requires c.if-s-p-eq0.true

pub returns-else-s-p-eq0 : goal.returns-else-s-p-eq0
returns-else-s-p-eq0 c = option-present c.requires c.if-s-p-eq0.false c.past_text.ensures
