use Rattle.std.proofs.Common.{arith}
use Rattle.alike_names.proofs.Members.{table_at, runtime-room, runtime-table, runtime-walks, other_at, other-walks}
use Rattle.alike_names.proofs.records.RuntimeTypeRecord.walk.Goals as goal

pub bounds-s-p : goal.bounds-s-p
bounds-s-p c = omega (arith, runtime-room _ c.requires)

pub word_at-n-requires : goal.word_at-n-requires
word_at-n-requires c = (runtime-table _ c.requires c.if-tag-eq-INTERFACE_TAG.true).room

pub table-requires : goal.table-requires
table-requires c = table_at (runtime-table _ c.requires c.if-tag-eq-INTERFACE_TAG.true) c.word_at-n.ensures

pub returns-then-tag-eq-INTERFACE_TAG : goal.returns-then-tag-eq-INTERFACE_TAG
returns-then-tag-eq-INTERFACE_TAG c = runtime-walks _ c.requires c.if-tag-eq-INTERFACE_TAG.true c.word_at-n.ensures c.table.ensures

pub overflow_add-p : goal.overflow_add-p
overflow_add-p c = omega (arith, runtime-room _ c.requires, c.requires.small)

pub past_variant-requires : goal.past_variant-requires
past_variant-requires c = other_at _ c.requires c.if-tag-eq-INTERFACE_TAG.false

pub returns : goal.returns
returns c = other-walks _ c.requires c.if-tag-eq-INTERFACE_TAG.false c.past_variant.ensures
