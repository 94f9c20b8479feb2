use Rattle.std.proofs.Common.{arith}
use Rattle.lists.proofs.Items.{runs-low}
use Rattle.lists.proofs.SlotTypeEntry.run.Goals as goal

pub returns : goal.returns
returns c = runs-low _ c.requires (omega arith) (omega arith) c.copy_low-k.ensures.low c.copy_low-k.ensures.copied c.remaining.ensures
