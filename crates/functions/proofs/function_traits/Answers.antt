use Rattle.vob24.specs.Grammar.{function_traits}
use Rattle.reader.proofs.Laws.{field_then}
use Rattle.functions.proofs.function_traits.Goals as goal

pub returns : goal.returns
unfolding function_traits
returns c = field_then c.field-is_closure.ensures (λ _. field_then c.field-error_ret_slot.ensures (λ _. c.field.ensures))
