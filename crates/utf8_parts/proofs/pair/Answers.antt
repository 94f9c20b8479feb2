use Rattle.utf8_parts.proofs.Bytes.{pair_of}
use Rattle.utf8_parts.proofs.pair.Goals as goal

pub returns : goal.returns
returns c = pair_of c.saturating_sub-x.ensures c.only.ensures c.only-2.ensures c.only-3.ensures
