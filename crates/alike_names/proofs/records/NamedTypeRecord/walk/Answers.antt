use Rattle.std.proofs.Common.{arith}
use Rattle.alike_names.proofs.Members.{table_at, named_table, named_here, named-walks}
use Rattle.alike_names.proofs.records.NamedTypeRecord.walk.Goals as goal

pub word_at-name-requires : goal.word_at-name-requires
word_at-name-requires c = omega (arith, (named_table _ c.requires).room)

pub overflow_add-methods : goal.overflow_add-methods
overflow_add-methods c = omega (arith, (named_table _ c.requires).room, c.requires.small)

pub overflow_add-methods-2 : goal.overflow_add-methods-2
overflow_add-methods-2 c = omega (arith, (named_here _ c.requires c.word_at-name.ensures).room, c.requires.small)

pub overflow_add-methods-3 : goal.overflow_add-methods-3
overflow_add-methods-3 c = omega (arith, (named_here _ c.requires c.word_at-name.ensures).room, c.requires.small)

pub word_at-n-requires : goal.word_at-n-requires
word_at-n-requires c = (named_here _ c.requires c.word_at-name.ensures).room

pub overflow_add-methods-4 : goal.overflow_add-methods-4
overflow_add-methods-4 c = omega (arith, (named_here _ c.requires c.word_at-name.ensures).room, c.requires.small)

pub table-requires : goal.table-requires
table-requires c = table_at (named_here _ c.requires c.word_at-name.ensures) c.word_at-n.ensures

pub returns : goal.returns
returns c = named-walks _ c.requires c.word_at-name.ensures c.word_at-n.ensures c.table.ensures
