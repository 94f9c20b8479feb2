use Rattle.repeat_search.proofs.Hashes.{taken-stays, taken-letter}
use Rattle.repeat_search.proofs.take_letter.Goals as goal

pub returns-in_default : goal.returns-in_default
returns-in_default c = taken-stays c.requires c.in_default.ensures c.from.ensures c.mix.ensures

pub returns : goal.returns
returns c =
    taken-letter c.requires c.in-Some.ensures (rw c.from-2.ensures at c.mix-x.ensures) c.mix-y.ensures (rw c.from-3.ensures at c.mix-2.ensures)
