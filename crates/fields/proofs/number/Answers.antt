use Rattle.fields.proofs.Keeps.{number-wordy, number-kept}
use Rattle.fields.proofs.number.Goals as goal

pub kept-requires : goal.kept-requires
kept-requires g c = number-wordy c.requires c.read.ensures

pub returns : goal.returns
returns g c = number-kept c.requires g.W.Word.one_word c.read.ensures c.kept.ensures
