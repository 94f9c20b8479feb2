use Rattle.std.proofs.Common.{arith}
use Rattle.in_place.proofs.Places.{runtime-name, runtime-typ, runtime-tag, runtime-embedded}
use Rattle.in_place.proofs.package_at.Goals as goal

pub past_text-typ-requires : goal.past_text-typ-requires
past_text-typ-requires c = runtime-name c.requires

pub overflow_add-typ : goal.overflow_add-typ
overflow_add-typ c = omega (arith, runtime-typ c.requires c.past_text-typ.ensures, c.requires.small)

pub past_text-embedded-requires : goal.past_text-embedded-requires
past_text-embedded-requires c = runtime-tag c.requires c.past_text-typ.ensures

pub overflow_add-result : goal.overflow_add-result
overflow_add-result c = omega (arith, runtime-embedded c.requires c.past_text-typ.ensures c.past_text-embedded.ensures, c.requires.small)
