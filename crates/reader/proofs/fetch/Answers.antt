use Rattle.reader.proofs.Leaves.{chunk-short, chunk-there}
use Rattle.reader.proofs.fetch.Goals as goal

pub returns-in_default : goal.returns-in_default
returns-in_default g c = chunk-short c.requires c.in_default.ensures.cases c.refuse.ensures

pub returns : goal.returns
returns g c = rw c.past.ensures (chunk-there c.requires c.in-Some.ensures.cases (λ i. (c.type_inv.s i).fits))
