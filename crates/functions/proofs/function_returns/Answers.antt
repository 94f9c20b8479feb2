use Rattle.vob24.specs.Grammar.{function_returns}
use Rattle.reader.proofs.Laws.{field_then}
use Rattle.functions.proofs.function_returns.Goals as goal

pub returns : goal.returns
unfolding function_returns
returns c = field_then c.field-ret_slots.ensures λ _. field_then c.slot_types-ret_slot_types.ensures λ _. field_then c.field-recv_slots.ensures λ _. field_then c.field-gcref_count.ensures λ _. field_then c.field-gcref_start.ensures λ _. c.read_list.ensures
