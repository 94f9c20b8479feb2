use Rattle.repeat_search.proofs.Filters.{pass-first}
use Rattle.repeat_search.proofs.one_pass.Goals as goal

pub returns : goal.returns
returns g c = pass-first _ _ _ _ _ c.pass.ensures
