use Rattle.vob24.specs.Grammar.{artifact}
use Rattle.reader.proofs.Laws.{field_then}
use Rattle.small_sections.proofs.ArtifactEntry.read.Goals as goal

pub returns : goal.returns
unfolding artifact
returns c = field_then c.field_artifact_name-name.ensures (λ _. field_then c.field-version.ensures (λ _. c.field_artifact_payload.ensures))
