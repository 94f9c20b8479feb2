use Rattle.utf8_parts.proofs.Bytes.{near-four}
use Rattle.utf8_parts.proofs.wrong_four.Goals as goal

pub returns : goal.returns
returns c = near-four c.saturating_sub.ensures c.saturating_sub-2.ensures c.saturating_sub-3.ensures c.flipped.ensures c.pair.ensures c.saturating_sub-4.ensures c.only.ensures
