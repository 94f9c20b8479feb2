use Rattle.runtime_type.proofs.Laws.{id-absent, id-there}
use Rattle.runtime_type.proofs.optional_id.Goals as goal

pub returns-then-raw-eq0 : goal.returns-then-raw-eq0
returns-then-raw-eq0 c = id-absent _ c.if-raw-eq0.true

pub returns : goal.returns
returns c = id-there _ c.if-raw-eq0.false
