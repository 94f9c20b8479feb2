use Rattle.std.specs.Cmp.Lexicographic.{same_text, other_text}
use Rattle.std.proofs.Common.{sym, ◌∙◌}
use Rattle.number_leaves.proofs.Marks.{magic-short, magic-got, magic-other}
use Rattle.number_leaves.proofs.read_magic.Goals as goal

pub returns-in_err-mark : goal.returns-in_err-mark
returns-in_err-mark c = magic-short c.fetch.ensures c.in_err-mark.was c.from_residual.ensures.1

pub returns-then-eq : goal.returns-then-eq
returns-then-eq c = magic-got c.fetch.ensures c.in_ok-mark.was (same_text _ _ (sym c.if-eq.true ∙ c.eq.ensures))

pub returns : goal.returns
returns c = magic-other c.fetch.ensures c.in_ok-mark.was (other_text _ _ (sym c.if-eq.false ∙ c.eq.ensures)) c.refuse.ensures
