-- The laws of the step by value: what the section call has answered lies in the pack, and where that moves the
-- position.
use Rattle.std.proofs.Common.{ℕ, ◌<◌, ◌^◌, ◌≡◌, ap, sym, ◌∙◌, List, Ok, arith, length}
use Rattle.vob24.specs.Settings.{settings}
use Rattle.vob24.specs.Grammar.{Section}
use Rattle.vob24.specs.Calls as vob
use Rattle.vob24_theorems.specs.Theorems.{section-within}
use Rattle.calls.specs.Contract.{Answer, answer_of, SectionCall}
use Rattle.position.specs.Moving.{position_of, Moves, Fits}
use Rattle.position.specs.declared.Position.{Position}
use Rattle.position.specs.Contract.{LentCall}

module _ {n : ℕ} {x : Section} {s : List ℕ} {at : Position} {t : List ℕ} {q : Answer} {t' : List ℕ} (k : SectionCall settings n x s at.place at.budget t q t') where
  -- the bytes taken lie in the pack
  pub fits-pack : length s < 2 ^ 64 → Fits at q
  fits-pack h = record {
    fits = λ {x = y} e.
        let i : (vob.section_outcome settings n x s at.place at.budget t).answer ≡ answer_of (Ok y) = ap (λ o. o.answer) k.is ∙ ap answer_of e in
        omega (arith, section-within settings n x s at.place at.budget t i);
  }

  pub lent-call : {at' : Position} → Moves at q at' → LentCall n x s at t q at' t'
  unfolding vob.lent_outcome
  lent-call m = record { is = ap (vob.advancing (position_of at)) k.is ∙ ap (λ p. record { answer = answer_of q; tape = t'; position = p }) (sym m.is) }
