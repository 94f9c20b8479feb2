use Rattle.repeat_search.proofs.Filters.{enters}
use Rattle.repeat_search.proofs.enter.Goals as goal

pub returns : goal.returns
returns c = enters c.mask-m.ensures c.requires
