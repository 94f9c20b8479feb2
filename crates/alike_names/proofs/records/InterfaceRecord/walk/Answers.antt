use Rattle.std.proofs.Common.{arith}
use Rattle.alike_names.proofs.Members.{table_at, interface-stands, interface-names, interface-found, interface-methods, interface-walks}
use Rattle.alike_names.proofs.records.InterfaceRecord.walk.Goals as goal

pub word_at-name-requires : goal.word_at-name-requires
word_at-name-requires c = omega (arith, (interface-stands _ c.requires).name)

pub overflow_add-names : goal.overflow_add-names
overflow_add-names c = omega (arith, (interface-stands _ c.requires).name, c.requires.small)

pub overflow_add-names-2 : goal.overflow_add-names-2
overflow_add-names-2 c = omega (arith, (interface-names _ c.requires c.word_at-name.ensures).room, c.requires.small)

pub word_at-m-requires : goal.word_at-m-requires
word_at-m-requires c = (interface-names _ c.requires c.word_at-name.ensures).room

pub overflow_add-names-3 : goal.overflow_add-names-3
overflow_add-names-3 c = omega (arith, (interface-names _ c.requires c.word_at-name.ensures).room, c.requires.small)

pub table-requires : goal.table-requires
table-requires c = table_at (interface-names _ c.requires c.word_at-name.ensures) c.word_at-m.ensures

pub returns-in_err-methods : goal.returns-in_err-methods
returns-in_err-methods c = rw c.from_residual.ensures (interface-found _ c.requires c.word_at-name.ensures c.word_at-m.ensures c.table.ensures c.in_err-methods.was)

pub word_at-n-requires : goal.word_at-n-requires
word_at-n-requires c = (interface-methods _ c.requires c.word_at-name.ensures c.word_at-m.ensures c.table.ensures c.in_ok-methods.was).room

pub overflow_add-methods : goal.overflow_add-methods
overflow_add-methods c = omega (arith, (interface-methods _ c.requires c.word_at-name.ensures c.word_at-m.ensures c.table.ensures c.in_ok-methods.was).room, c.requires.small)

pub table-requires-2 : goal.table-requires-2
table-requires-2 c = table_at (interface-methods _ c.requires c.word_at-name.ensures c.word_at-m.ensures c.table.ensures c.in_ok-methods.was) c.word_at-n.ensures

pub returns : goal.returns
returns c = interface-walks _ c.requires c.word_at-name.ensures c.word_at-m.ensures c.table.ensures c.in_ok-methods.was c.word_at-n.ensures c.table-2.ensures
