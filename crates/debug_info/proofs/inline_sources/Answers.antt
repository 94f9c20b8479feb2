use Rattle.reader.proofs.Laws.{field_then}
use Rattle.debug_info.proofs.inline_sources.Goals as goal

pub returns : goal.returns
returns c = field_then c.inline_frames-frames.ensures (λ _. c.inline_functions.ensures)
