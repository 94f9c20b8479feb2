use Rattle.reader.proofs.Paying.{paid-no, paid-yes}
use Rattle.reader.proofs.charge_allocation.Goals as goal

pub returns-then-left-requested : goal.returns-then-left-requested
returns-then-left-requested c = rw c.from.ensures (paid-no c.if-left-requested.true)

pub returns : goal.returns
returns c = paid-yes c.if-left-requested.false
