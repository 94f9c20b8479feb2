use Rattle.vob24.specs.Grammar.{named_type}
use Rattle.reader.proofs.Laws.{field_then}
use Rattle.reader.proofs.Accepting.{accepted-next}
use Rattle.named_types.proofs.NamedTypeEntry.read.Goals as goal

pub methods-requires : goal.methods-requires
unfolding named_type
methods-requires c = (c.field-underlying_rttid.ensures.ready, accepted-next c.field-underlying_rttid.ensures (accepted-next c.field-underlying_meta.ensures (accepted-next c.field_str-name.ensures c.requires.accepted)))

pub returns : goal.returns
unfolding named_type
returns c = field_then c.field_str-name.ensures (λ _. field_then c.field-underlying_meta.ensures (λ _. field_then c.field-underlying_rttid.ensures (λ _. c.methods.ensures)))
