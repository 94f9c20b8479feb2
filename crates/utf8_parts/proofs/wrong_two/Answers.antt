use Rattle.utf8_parts.proofs.Bytes.{near-two}
use Rattle.utf8_parts.proofs.wrong_two.Goals as goal

pub returns : goal.returns
returns c = near-two c.saturating_sub.ensures c.flipped.ensures c.only.ensures
