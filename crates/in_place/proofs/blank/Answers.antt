use Rattle.std.proofs.Common.{ne_eqb}
use Rattle.in_place.proofs.Texts.{blank-long, blank-one}
use Rattle.in_place.proofs.blank.Goals as goal

pub returns-then-word_at-eq1 : goal.returns-then-word_at-eq1
returns-then-word_at-eq1 c = blank-one c.requires c.word_at.ensures c.if-word_at-eq1.true

pub returns-else-word_at-eq1 : goal.returns-else-word_at-eq1
returns-else-word_at-eq1 c =
    rw (ne_eqb _ 1 c.if-word_at-eq1.false) (blank-long c.requires c.word_at.ensures c.if-word_at-eq1.false)
