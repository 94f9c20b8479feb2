use Rattle.reader.proofs.Laws.{up-refused}
use Rattle.constants.proofs.ItemEntry.read.Goals as goal

pub returns-in_err-r : goal.returns-in_err-r
returns-in_err-r c = up-refused c.in_err-r.was c.from_residual.ensures.1
