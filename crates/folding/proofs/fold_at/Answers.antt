use Rattle.std.proofs.Common.{refl, sym, ◌∙◌}
use Rattle.folding.specs.Bytes.{folds}
use Rattle.folding.proofs.Folded.{no_lead, lead-last, no_last, entry-is, letter-is}
use Rattle.folding.proofs.fold_at.Goals as goal
use Rattle.folding.proofs.fold_at.Goals.{then-not-opens-via-then-not-opens, then-not-opens-via-else-not-opens+then-end-at}

pub returns-then-not-opens : goal.returns-then-not-opens
returns-then-not-opens c =
    elim c.then-not-opens.branch [
      | then-not-opens-via-then-not-opens w ↦ no_lead _ _ _ c.requires.0 c.requires.1 (sym c.opens.ensures ∙ w.if-not-opens.true)
      | then-not-opens-via-else-not-opens+then-end-at w ↦ lead-last _ _ _ c.requires.0 c.requires.1 w.if-end-at.true
    ]

pub returns-then-not-ends : goal.returns-then-not-ends
returns-then-not-ends c =
    no_last _ _ _ c.requires.0 c.requires.1 c.if-end-at.false (sym c.ends.ensures ∙ c.if-not-ends.true)

pub returns-then-entry-eq0 : goal.returns-then-entry-eq0
unfolding folds
returns-then-entry-eq0 c =
    (rw (← c.from.ensures, ← c.from-2.ensures) at (entry-is _ _ _ c.requires.0 c.requires.1 c.if-end-at.false (sym c.opens.ensures ∙ c.if-not-opens.false) (sym c.ends.ensures ∙ c.if-not-ends.false))) ∙ c.if-entry-eq0.true

pub returns : goal.returns
unfolding folds
returns c =
    letter-is (rw (← c.from.ensures, ← c.from-2.ensures) at (entry-is _ _ _ c.requires.0 c.requires.1 c.if-end-at.false (sym c.opens.ensures ∙ c.if-not-opens.false) (sym c.ends.ensures ∙ c.if-not-ends.false))) refl c.if-entry-eq0.false
