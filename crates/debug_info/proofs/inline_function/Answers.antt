use Rattle.format.specs.Format.{counted}
use Rattle.vob24.specs.Grammar.{inline_function}
use Rattle.reader.proofs.Numbering.{numbered_not, numbered_items, numbered_refused}
use Rattle.debug_info.specs.DebugInfo.{entry_format}
use Rattle.debug_info.proofs.Laws.{second-number}
use Rattle.debug_info.proofs.inline_function.Goals as goal

pub returns-in_err-d : goal.returns-in_err-d
unfolding inline_function
returns-in_err-d c = numbered_not c.in_err-d.was c.from_residual.ensures.1 c.number.ensures

pub returns-in_err-n : goal.returns-in_err-n
unfolding inline_function
returns-in_err-n c = second-number counted c.in_ok-d.was c.number.ensures (numbered_not c.in_err-n.was c.from_residual-in_err-n.ensures.1 c.number_debug_count.ensures)

pub returns-in_err-g : goal.returns-in_err-g
unfolding inline_function
returns-in_err-g c = second-number counted c.in_ok-d.was c.number.ensures (numbered_refused c.in_ok-n.was c.number_debug_count.ensures entry_format c.in_err-g.was c.from_residual-in_err-g.ensures.1 c.entries.ensures)

pub returns : goal.returns
unfolding inline_function
returns c = second-number counted c.in_ok-d.was c.number.ensures (numbered_items c.in_ok-n.was c.number_debug_count.ensures entry_format c.in_ok-g.was c.entries.ensures)
