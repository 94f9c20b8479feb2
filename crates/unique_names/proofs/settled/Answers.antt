use Rattle.unique_names.proofs.Paying.{all_paid}
use Rattle.unique_names.proofs.settled.Goals as goal

pub returns : goal.returns
returns c = all_paid c.requires.1 c.if-first-n.false c.requires.2 c.if-left-cost.false
