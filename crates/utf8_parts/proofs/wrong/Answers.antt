use Rattle.utf8_parts.proofs.Bytes.{stands_of}
use Rattle.utf8_parts.proofs.wrong.Goals as goal

pub returns : goal.returns
returns c = stands_of c.wrong_four.ensures c.saturating_sub.ensures c.only.ensures c.saturating_sub-2.ensures
