use Rattle.vob24.specs.Settings.{settings_of}
use Rattle.functions.specs.Formats.{function_body}
use Rattle.reader.proofs.Parts.{part_not}
use Rattle.reader.proofs.Laws.{up-refused, at-step, number_then}
use Rattle.functions.proofs.function_slots.Goals as goal

pub returns-in_err-r : goal.returns-in_err-r
returns-in_err-r c = up-refused c.in_err-r.was c.from_residual.ensures.1

pub returns-in_err-types : goal.returns-in_err-types
returns-in_err-types c = part_not c.in_ok-r.was c.in_err-types.was c.from_residual-in_err-types.ensures.1 c.number_slot_types.ensures

pub returns : goal.returns
returns c = at-step c.in_ok-r.was (number_then (λ types. (function_body (settings_of c.args.set.now)) types c.args.locals) c.in_ok-types.was c.number_slot_types.ensures c.function_body.ensures)
