use Rattle.std.proofs.Common.{arith}
use Rattle.folding.specs.Injective.{fold-injective}
use Rattle.in_place.proofs.Places.{item-name}
use Rattle.repeat_search.proofs.Tables.{items-less}
use Rattle.alike_names.proofs.Searching.{table_none, table-found, plain-apart, table-apart, repeats-found}
use Rattle.alike_names.proofs.search.table.Goals as goal

pub returns-in-Some : goal.returns-in-Some
returns-in-Some c = table-apart plain-apart c.requires c.items_without.ensures c.in-Some.is

pub returns-in-Some-items_without : goal.returns-in-Some-items_without
returns-in-Some-items_without c = table-apart fold-injective c.requires c.items_without-2.ensures c.in-Some-items_without.is

pub returns-then-n-i : goal.returns-then-n-i
returns-then-n-i c = table_none c.requires.items c.first_repeat-i.ensures c.if-n-i.true c.past_items.ensures

pub past_items-p-requires : goal.past_items-p-requires
past_items-p-requires c = items-less (omega arith) c.requires.items

pub partner-a-requires : goal.partner-a-requires
partner-a-requires c = (repeats-found c.requires.items c.first_repeat-i.ensures c.if-n-i.false c.past_items-p.ensures)

pub overflow_add-result : goal.overflow_add-result
overflow_add-result c = omega (arith, (item-name c.args.item c.partner-a.ensures.placed).room, c.requires.items.small)

pub overflow_add-result-2 : goal.overflow_add-result-2
overflow_add-result-2 c = omega (arith, (item-name c.args.item (repeats-found c.requires.items c.first_repeat-i.ensures c.if-n-i.false c.past_items-p.ensures).standing.after.here).room, c.requires.items.small)

pub word_at-requires : goal.word_at-requires
word_at-requires c = omega (arith, (item-name c.args.item c.partner-a.ensures.placed).room)

pub word_at-requires-2 : goal.word_at-requires-2
word_at-requires-2 c = omega (arith, (item-name c.args.item (repeats-found c.requires.items c.first_repeat-i.ensures c.if-n-i.false c.past_items-p.ensures).standing.after.here).room)

pub returns : goal.returns
returns c = table-found c.requires.items c.first_repeat-i.ensures c.if-n-i.false c.past_items-p.ensures c.partner-a.ensures c.word_at.ensures c.word_at-2.ensures
