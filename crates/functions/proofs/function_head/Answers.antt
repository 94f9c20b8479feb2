use Rattle.vob24.specs.Grammar.{function_head}
use Rattle.reader.proofs.Laws.{field_then}
use Rattle.functions.proofs.function_head.Goals as goal

pub returns : goal.returns
unfolding function_head
returns c = field_then c.field_str-name.ensures (λ _. field_then c.field-param_count.ensures (λ _. c.field.ensures))
