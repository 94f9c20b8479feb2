use Rattle.vob24.specs.Grammar.{inline_frames}
use Rattle.reader.proofs.Laws.{up-refused}
use Rattle.reader.proofs.Parts.{part_not, list_then}
use Rattle.debug_info.specs.DebugInfo.{frame_format}
use Rattle.debug_info.proofs.Laws.{frames-at}
use Rattle.debug_info.proofs.inline_frames.Goals as goal

pub returns-in_err-r : goal.returns-in_err-r
returns-in_err-r c = up-refused c.in_err-r.was c.from_residual.ensures.1

pub returns-in_err-n : goal.returns-in_err-n
unfolding inline_frames
returns-in_err-n c = part_not c.in_ok-r.was c.in_err-n.was c.from_residual-in_err-n.ensures.1 (frames-at _ c.inline_records-most.ensures c.number_debug_count.ensures)

pub returns : goal.returns
unfolding inline_frames
returns c = list_then frame_format c.in_ok-r.was c.in_ok-n.was (frames-at _ c.inline_records-most.ensures c.number_debug_count.ensures) c.entries.ensures
