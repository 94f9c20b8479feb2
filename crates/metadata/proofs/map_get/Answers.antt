use Rattle.std.proofs.Common.{refl}
use Rattle.reader.proofs.Recording.{record_lost, lost_here, lost_then, lost_last}
use Rattle.metadata.proofs.Shapes.{map_get_layout}
use Rattle.metadata.proofs.map_get.Goals as goal

pub returns-in_err-m : goal.returns-in_err-m
returns-in_err-m c = record_lost refl c.from_residual.ensures.1 (lost_here c.in_err-m.was refl c.number_slot_types.ensures)

pub returns-in_err-n : goal.returns-in_err-n
returns-in_err-n c = record_lost refl c.from_residual-in_err-n.ensures.1 (lost_then c.in_ok-m.was c.number_slot_types.ensures λ _. lost_here c.in_err-n.was refl c.number_slot_types-2.ensures)

pub returns-in_err-ok : goal.returns-in_err-ok
returns-in_err-ok c = record_lost refl c.from_residual-in_err-ok.ensures.1 (lost_then c.in_ok-m.was c.number_slot_types.ensures λ _. lost_then c.in_ok-n.was c.number_slot_types-2.ensures λ _. lost_last c.in_err-ok.was refl c.number.ensures)

pub returns : goal.returns
returns c = map_get_layout _ c.in_ok-m.was c.number_slot_types.ensures c.in_ok-n.was c.number_slot_types-2.ensures c.list_at.ensures c.list_at-2.ensures c.in_ok-ok.was c.number.ensures
