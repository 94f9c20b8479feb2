use Rattle.reader.specs.Leaves.{narrow_byte}
use Rattle.reader.proofs.Keeping.{fetches-answers}
use Rattle.fields.proofs.words.U8Word.read.Goals as goal

pub returns : goal.returns
returns c = fetches-answers narrow_byte c.read_u8.ensures
