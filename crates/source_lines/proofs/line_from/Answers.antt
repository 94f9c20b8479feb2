use Rattle.std.proofs.Common.{rules, arith}
use Rattle.vob24.specs.Settings.{settings_of}
use Rattle.source_lines.proofs.Locations.{list-room, list-items, line-past, line-shown}
use Rattle.source_lines.proofs.line_from.Goals as goal

pub returns-then-n-function : goal.returns-then-n-function
returns-then-n-function c = line-past (settings_of c.args.set.now) c.requires c.word_at-n.ensures c.args.function c.args.address c.args.end c.if-n-function.true

pub word_at-count-requires : goal.word_at-count-requires
word_at-count-requires c = list-room (settings_of c.args.set.now) c.list_at-list.ensures.placed

pub overflow_add-list : goal.overflow_add-list
overflow_add-list c = omega (arith, list-room (settings_of c.args.set.now) c.list_at-list.ensures.placed, c.list_at-list.ensures.placed.small)

pub best_of-best-requires : goal.best_of-best-requires
best_of-best-requires c = list-items (settings_of c.args.set.now) c.list_at-list.ensures.placed c.word_at-count.ensures

pub returns : goal.returns
returns c = line-shown (settings_of c.args.set.now) c.requires c.word_at-n.ensures c.args.function c.args.address c.args.end c.if-n-function.false c.list_at-list.ensures c.word_at-count.ensures (rw c.from.ensures at c.best_of-best.ensures) (search rules)
