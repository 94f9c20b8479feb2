use Rattle.utf8_parts.proofs.Bytes.{near-three}
use Rattle.utf8_parts.proofs.wrong_three.Goals as goal

pub returns : goal.returns
returns c = near-three c.saturating_sub.ensures c.saturating_sub-2.ensures c.flipped.ensures c.pair.ensures
