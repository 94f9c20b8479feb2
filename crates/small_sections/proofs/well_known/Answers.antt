use Rattle.reader.proofs.Laws.{field_then}
use Rattle.small_sections.proofs.well_known.Goals as goal

pub returns : goal.returns
returns c = field_then c.error_types-errors.ensures (λ _. c.object_interfaces.ensures)
