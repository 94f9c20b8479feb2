use Rattle.std.proofs.Common.{arith}
use Rattle.vob24.specs.Settings.{settings_of}
use Rattle.source_lines.proofs.Skips.{list-numbers}
use Rattle.source_lines.proofs.Locations.{list-room, list-items, list-past}
use Rattle.source_lines.proofs.past_list.Goals as goal

pub word_at-n-requires : goal.word_at-n-requires
word_at-n-requires c = list-room (settings_of c.args.set.now) c.requires

pub overflow_add-p : goal.overflow_add-p
overflow_add-p c = omega (arith, list-room (settings_of c.args.set.now) c.requires, c.requires.small)

pub past_numbers-requires : goal.past_numbers-requires
past_numbers-requires c = list-numbers (list-items (settings_of c.args.set.now) c.requires c.word_at-n.ensures)

pub returns : goal.returns
returns c = list-past (settings_of c.args.set.now) c.requires c.word_at-n.ensures c.past_numbers.ensures
