use Rattle.vob24.specs.Settings.{settings_of}
use Rattle.vob24.specs.Grammar.{slot_types}
use Rattle.reader.proofs.Laws.{number_just, number_then, number_not, number_lost}
use Rattle.metadata.proofs.two_layouts.Goals as goal

pub returns-in_err-d : goal.returns-in_err-d
returns-in_err-d c = number_not _ c.in_err-d.was c.from_residual.ensures.1 c.number_slot_types.ensures

pub returns-in_err-e : goal.returns-in_err-e
returns-in_err-e c = number_then (λ _. slot_types (settings_of c.args.set.now)) c.in_ok-d.was c.number_slot_types.ensures (number_lost c.in_err-e.was c.from_residual-in_err-e.ensures.1 c.number_slot_types-2.ensures)

pub returns : goal.returns
returns c = number_then (λ _. slot_types (settings_of c.args.set.now)) c.in_ok-d.was c.number_slot_types.ensures (number_just c.in_ok-e.was c.number_slot_types-2.ensures)
