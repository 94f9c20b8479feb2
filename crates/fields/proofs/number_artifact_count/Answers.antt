use Rattle.reader.specs.Leaves.{one_count}
use Rattle.fields.proofs.Keeps.{number-wordy, number-kept}
use Rattle.fields.proofs.number_artifact_count.Goals as goal

pub kept-requires : goal.kept-requires
kept-requires c = number-wordy c.requires c.read_artifact_count.ensures

pub returns : goal.returns
returns c = number-kept c.requires one_count c.read_artifact_count.ensures c.kept.ensures
