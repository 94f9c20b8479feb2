use Rattle.lookup.proofs.Laws.{name-equal}
use Rattle.lookup.proofs.is_name.Goals as goal

pub returns : goal.returns
returns c = name-equal c.eq.ensures
