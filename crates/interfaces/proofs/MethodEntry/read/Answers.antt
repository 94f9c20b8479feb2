use Rattle.vob24.specs.Grammar.{interface_method}
use Rattle.reader.proofs.Laws.{field_then}
use Rattle.interfaces.proofs.MethodEntry.read.Goals as goal

pub returns : goal.returns
unfolding interface_method
returns c = field_then c.field_member_name-name.ensures (λ _. c.field.ensures)
