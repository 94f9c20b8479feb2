use Rattle.alike_names.proofs.Searching.{nearer-here, nearer-before}
use Rattle.alike_names.proofs.search.nearer.Goals as goal

pub returns-then-same_key : goal.returns-then-same_key
returns-then-same_key c = nearer-here c.same_key.ensures c.if-same_key.true

pub returns : goal.returns
returns c = nearer-before c.same_key.ensures c.if-same_key.false
