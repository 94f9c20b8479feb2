use Rattle.vob24.specs.Settings.{settings_of}
use Rattle.vob24.specs.Grammar.{function}
use Rattle.format.specs.Format.{◌▸◌}
use Rattle.functions.specs.Formats.{function_returns, function_traits, function_slots}
use Rattle.reader.proofs.Parts.{part_not}
use Rattle.reader.proofs.Laws.{up-refused, field_then, at-step, number_then}
use Rattle.functions.proofs.FunctionEntry.read.Goals as goal

pub returns-in_err-head : goal.returns-in_err-head
unfolding function
returns-in_err-head c = field_then c.function_head-head.ensures λ _. up-refused c.in_err-head.was c.from_residual.ensures.1

pub returns-in_err-locals : goal.returns-in_err-locals
unfolding function
returns-in_err-locals c = field_then c.function_head-head.ensures λ _. part_not c.in_ok-head.was c.in_err-locals.was c.from_residual-in_err-locals.ensures.1 c.number.ensures

pub returns : goal.returns
unfolding function
returns c = field_then c.function_head-head.ensures λ _. at-step c.in_ok-head.was (number_then (λ locals. (function_returns (settings_of c.args.self.now.set.now)) ▸ function_traits ▸ (function_slots (settings_of c.args.self.now.set.now)) locals) c.in_ok-locals.was c.number.ensures (field_then c.function_returns-returns.ensures λ _. field_then c.function_traits-traits.ensures λ _. c.function_slots.ensures))
