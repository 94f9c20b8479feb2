use Rattle.std.proofs.Common.{◌∙◌}
use Rattle.in_place.proofs.Texts.{same_pointwise}
use Rattle.in_place.proofs.same_text.Goals as goal

pub returns : goal.returns
returns c = record { is = c.eq.ensures ∙ rw (c.text.ensures, c.text-2.ensures) (same_pointwise _ _) }
