use Rattle.vob24.specs.Grammar.{section}
use Rattle.reader.proofs.Laws.{field_then}
use Rattle.deserialize.proofs.after_functions.Goals as goal

pub returns : goal.returns
unfolding section
returns c = field_then c.externs-r1.ensures (λ _. field_then c.field-r2.ensures (λ _. field_then c.field-r3.ensures (λ _. c.artifacts_on.ensures)))
