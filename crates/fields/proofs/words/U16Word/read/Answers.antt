use Rattle.reader.specs.Leaves.{narrow_half}
use Rattle.reader.proofs.Keeping.{fetches-answers}
use Rattle.fields.proofs.words.U16Word.read.Goals as goal

pub returns : goal.returns
returns c = fetches-answers narrow_half c.read_u16.ensures
