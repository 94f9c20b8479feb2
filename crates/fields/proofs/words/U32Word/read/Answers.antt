use Rattle.reader.specs.Leaves.{narrow_word}
use Rattle.reader.proofs.Keeping.{fetches-answers}
use Rattle.fields.proofs.words.U32Word.read.Goals as goal

pub returns : goal.returns
returns c = fetches-answers narrow_word c.read_u32.ensures
