use Rattle.vob24.specs.Grammar.{frame}
use Rattle.reader.proofs.Laws.{field_then}
use Rattle.debug_info.proofs.FrameEntry.read.Goals as goal

pub returns : goal.returns
unfolding frame
returns c = field_then c.field-parent.ensures (λ _. field_then c.field-function_id.ensures (λ _. c.optional_span.ensures))
