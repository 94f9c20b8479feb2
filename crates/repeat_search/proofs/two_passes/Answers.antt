use Rattle.repeat_search.proofs.Filters.{suspects-first}
use Rattle.repeat_search.proofs.two_passes.Goals as goal

pub returns : goal.returns
returns c = suspects-first c.suspect.ensures _ c.pass.ensures
