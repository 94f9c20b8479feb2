use Rattle.std.proofs.Common.{refl}
use Rattle.repeat_search.specs.Filters.{mask_of}
use Rattle.repeat_search.proofs.mask.Goals as goal

pub returns : goal.returns
unfolding mask_of
returns c = refl
