use Rattle.vob24.specs.Grammar.{itab}
use Rattle.reader.proofs.Laws.{field_then}
use Rattle.small_sections.proofs.ItabEntry.read.Goals as goal

pub returns : goal.returns
unfolding itab
returns c = field_then c.field-iface_meta_id.ensures (λ _. c.read_list.ensures)
