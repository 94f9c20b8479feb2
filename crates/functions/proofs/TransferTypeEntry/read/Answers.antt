use Rattle.vob24.specs.Grammar.{transfer}
use Rattle.reader.proofs.Laws.{field_then}
use Rattle.functions.proofs.TransferTypeEntry.read.Goals as goal

pub returns : goal.returns
unfolding transfer
returns c = field_then c.field-meta.ensures (λ _. field_then c.field-rttid.ensures (λ _. c.field.ensures))
