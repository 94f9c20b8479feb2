use Rattle.std.proofs.Common.{arith}
use Rattle.in_place.specs.declared.Item.TheVariants.{StructField}
use Rattle.in_place.proofs.Places.{item-name}
use Rattle.unique_names.proofs.Asking.{charge-none, charge-one}
use Rattle.unique_names.proofs.charge_field.Goals as goal

pub blank-requires : goal.blank-requires
blank-requires c = item-name StructField c.requires

pub returns-then-blank : goal.returns-then-blank
returns-then-blank c = charge-none c.requires c.blank.ensures c.if-blank.true

pub word_at-len-requires : goal.word_at-len-requires
word_at-len-requires c = omega (arith, (item-name StructField c.requires).room)

pub returns : goal.returns
returns c = charge-one c.requires c.blank.ensures c.if-blank.false c.word_at-len.ensures c.charge_allocation.ensures
