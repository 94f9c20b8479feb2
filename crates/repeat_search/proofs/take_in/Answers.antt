use Rattle.repeat_search.proofs.Hashes.{taken-plain}
use Rattle.repeat_search.proofs.take_in.Goals as goal

pub returns : goal.returns
returns c = taken-plain c.requires c.opens.ensures c.if-opens.false c.from.ensures c.mix.ensures
