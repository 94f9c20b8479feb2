use Rattle.pack.proofs.Laws.{located-refused, located-counted, located-look}
use Rattle.pack.proofs.located.Goals as goal

pub look_from-requires : goal.look_from-requires
look_from-requires c = located-counted c.requires c.to_section-at.ensures c.in_ok-at.was

pub returns-in_err-at : goal.returns-in_err-at
returns-in_err-at c = located-refused c.requires c.to_section-at.ensures c.in_err-at.was

pub returns : goal.returns
returns c = located-look c.requires c.to_section-at.ensures c.in_ok-at.was c.look_from.ensures
