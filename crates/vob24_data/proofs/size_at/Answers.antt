use Rattle.std.proofs.Common.{◌∙◌, arith}
use Rattle.vob24.specs.SizeTable.{array-below, array-past, array_at}
use Rattle.vob24_data.proofs.size_at.Goals as goal

pub returns-in-1-to-33 : goal.returns-in-1-to-33
returns-in-1-to-33 c = (c.from.ensures ∙ array_at _ _ (omega arith) (omega arith), rw c.from.ensures (c.fits-set _))

pub returns-in_default : goal.returns-in_default
returns-in_default c = (array-below _ _ (omega arith), omega arith)

pub returns-in_default-2 : goal.returns-in_default-2
returns-in_default-2 c = (array-past _ _ (omega arith), omega arith)
