use Rattle.empty_lists.proofs.Laws.{ready-passed}
use Rattle.empty_lists.proofs.past_empty.Goals as goal

pub past-here-requires : goal.past-here-requires
past-here-requires c = ready-passed c.requires.0 c.requires.1 c.loop.invariant
