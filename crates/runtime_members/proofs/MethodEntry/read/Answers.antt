use Rattle.reader.proofs.Laws.{field_then}
use Rattle.vob24.specs.Grammar.{runtime_method}
use Rattle.runtime_members.proofs.MethodEntry.read.Goals as goal

pub returns : goal.returns
unfolding runtime_method
returns c = field_then c.field_member_name-name.ensures (λ _. c.field.ensures)
