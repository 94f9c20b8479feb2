use Rattle.folding.proofs.Folded.{next_none, next-stays, next-letter}
use Rattle.folding.proofs.Rest.next.Goals as goal

pub returns-then-self : goal.returns-then-self
returns-then-self c = next_none _ c.in-Nothing.is c.if-self.true

pub returns-in-None : goal.returns-in-None
returns-in-None c = rw c.past.ensures (next-stays c.in-Nothing.is c.if-self.false c.requires c.in-None.ensures)

pub returns-in-Some : goal.returns-in-Some
returns-in-Some c = next-letter c.in-Nothing.is c.if-self.false c.requires c.in-Some.ensures
