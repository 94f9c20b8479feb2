use Rattle.std.proofs.Common.{arith}
use Rattle.alike_names.proofs.Members.{table_at, struct-slots, struct-here, struct-walks}
use Rattle.alike_names.proofs.records.StructureRecord.walk.Goals as goal

pub word_at-slots-requires : goal.word_at-slots-requires
word_at-slots-requires c = omega (arith, struct-slots _ c.requires)

pub overflow_add-fields : goal.overflow_add-fields
overflow_add-fields c = omega (arith, struct-slots _ c.requires, c.requires.small)

pub overflow_add-fields-2 : goal.overflow_add-fields-2
overflow_add-fields-2 c = omega (arith, (struct-here _ c.requires c.word_at-slots.ensures).room, c.requires.small)

pub word_at-n-requires : goal.word_at-n-requires
word_at-n-requires c = (struct-here _ c.requires c.word_at-slots.ensures).room

pub overflow_add-fields-3 : goal.overflow_add-fields-3
overflow_add-fields-3 c = omega (arith, (struct-here _ c.requires c.word_at-slots.ensures).room, c.requires.small)

pub table-requires : goal.table-requires
table-requires c = table_at (struct-here _ c.requires c.word_at-slots.ensures) c.word_at-n.ensures

pub returns : goal.returns
returns c = struct-walks _ c.requires c.word_at-slots.ensures c.word_at-n.ensures c.table.ensures
