-- How the bytes of a name are folded from their front, and which bytes stay.
use Rattle.std.specs.Prelude.{ℕ, suc, ◌/◌, ◌%◌, ◌≡◌, refl, List, [], ◌∷◌, false}
use Rattle.std.proofs.Common.{ap, ◌∙◌, arith, eq-eqb, ne_eqb}
use Rattle.format.specs.Trace.{pick}
use Rattle.vob24.specs.Utf8.{in?}
use Rattle.folding.specs.Bytes.{fold_of, head_fold, fold_bytes, Without}

pub fold-nil : fold_bytes [] ≡ []
unfolding fold_bytes
fold-nil = refl

pub fold_stays : (b : ℕ) (t : List ℕ) → head_fold (b ∷ t) ≡ 0 → fold_bytes (b ∷ t) ≡ b ∷ fold_bytes t
unfolding head_fold fold_bytes pick
fold_stays b [] e = refl
fold_stays b (c ∷ t) e = rw (eq-eqb (fold_of b c) 0 e)

pub fold-letter : (b c : ℕ) (t : List ℕ) → (head_fold (b ∷ c ∷ t) ≡ 0 → ⊥)
    → fold_bytes (b ∷ c ∷ t) ≡ head_fold (b ∷ c ∷ t) / 256 ∷ 0xcc ∷ head_fold (b ∷ c ∷ t) % 256 ∷ fold_bytes t
unfolding head_fold fold_bytes pick
fold-letter b c t e = rw (ne_eqb (fold_of b c) 0 e)

-- a byte that opens no letter from U+00C0 to U+017F
pub head_plain : (b : ℕ) (t : List ℕ) → in? 0xc3 0xc5 b ≡ false → head_fold (b ∷ t) ≡ 0
unfolding head_fold fold_of pick
head_plain b [] e = refl
head_plain b (c ∷ t) e = rw e

pub fold-plain : (x : List ℕ) → Without 0xc3 0xc5 x → fold_bytes x ≡ x
fold-plain [] h = fold-nil
fold-plain (b ∷ t) h =
    fold_stays b t (head_plain b t (h 0 (omega arith))) ∙ ap (◌∷◌ b) (fold-plain t (λ i k. h (suc i) (omega arith)))
