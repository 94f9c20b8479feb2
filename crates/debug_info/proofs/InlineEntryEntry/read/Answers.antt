use Rattle.vob24.specs.Grammar.{inline_entry}
use Rattle.reader.proofs.Laws.{field_then}
use Rattle.debug_info.proofs.InlineEntryEntry.read.Goals as goal

pub returns : goal.returns
unfolding inline_entry
returns c = field_then c.field-pc.ensures (λ _. c.field.ensures)
