use Rattle.repeat_search.proofs.Tables.{items-less}
use Rattle.repeat_search.proofs.under_seed.Goals as goal

pub two_passes-requires : goal.two_passes-requires
two_passes-requires c = items-less c.loop-part.invariant.within c.requires
