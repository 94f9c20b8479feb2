-- Folding keeps bytes without CC apart: each CC of what they fold to is of a letter that was replaced, since base letters
-- are ASCII, and no two letters have the same base letter and mark.
use Rattle.std.specs.Prelude.{ℕ, zero, suc, ◌/◌, ◌%◌, ◌≡◌, refl, List, [], ◌∷◌, Bool, true, false, not, ◌&&◌, ◌||◌, eqb, get_or}
use Rattle.std.proofs.Common.{ap, sym, ◌∙◌, arith, ne_eqb}
use Rattle.std.proofs.lemmas.Bool.{eqb-false, not-true}
use Rattle.format.specs.Trace.{pick}
use Rattle.vob24.specs.Utf8.{in?}
use Rattle.folding.specs.Bytes.{folds, fold_of, fold_bytes, Without}
use Rattle.folding.specs.Letters.{both_true, letter-of}

-- ---- a computed test: no two entries other than 0 are the same

abbrev absent? : ℕ → List ℕ → Bool
absent? f [] = true
absent? f (g ∷ gs) = not (eqb f g) && absent? f gs

absent : (f : ℕ) (fs : List ℕ) → (f ≡ 0 → ⊥) → absent? f fs ≡ true → (i : ℕ) → f ≡ get_or fs i 0 → ⊥
absent f [] z t i e = z e
absent f (g ∷ fs) z t zero e = eqb-false f g (not-true (eqb f g) (both_true (not (eqb f g)) (absent? f fs) t).0) e
absent f (g ∷ fs) z t (suc i) e = absent f fs z (both_true (not (eqb f g)) (absent? f fs) t).1 i e

abbrev distinct? : List ℕ → Bool
distinct? [] = true
distinct? (f ∷ fs) = (eqb f 0 || absent? f fs) && distinct? fs

first_absent : (f : ℕ) (fs : List ℕ) → distinct? (f ∷ fs) ≡ true → (f ≡ 0 → ⊥) → (i : ℕ) → f ≡ get_or fs i 0 → ⊥
first_absent f fs t z =
    absent f fs z (rw (ne_eqb f 0 z) at (both_true (eqb f 0 || absent? f fs) (distinct? fs) t).0)

distinct : (fs : List ℕ) → distinct? fs ≡ true → (i j : ℕ) → (get_or fs i 0 ≡ 0 → ⊥) → get_or fs i 0 ≡ get_or fs j 0 → i ≡ j
distinct [] t i j z e = absurd (z refl)
distinct (f ∷ fs) t zero zero z e = refl
distinct (f ∷ fs) t zero (suc j) z e = absurd (first_absent f fs t z j e)
distinct (f ∷ fs) t (suc i) zero z e = absurd (first_absent f fs t (λ k. z (e ∙ k)) i (sym e))
distinct (f ∷ fs) t (suc i) (suc j) z e =
    ap suc (distinct fs (both_true (eqb f 0 || absent? f fs) (distinct? fs) t).1 i j z e)

folds-distinct : (i j : ℕ) → (get_or folds i 0 ≡ 0 → ⊥) → get_or folds i 0 ≡ get_or folds j 0 → i ≡ j
unfolding folds
folds-distinct = distinct folds refl

-- ---- a letter that is replaced

base-no-mark : (b c : ℕ) → (fold_of b c ≡ 0 → ⊥) → fold_of b c / 256 ≡ 0xcc → ⊥
base-no-mark b c z e = omega (arith, (letter-of b c z).base)

same-letter : (b c d e : ℕ) → (fold_of b c ≡ 0 → ⊥) → fold_of b c ≡ fold_of d e → (b ≡ d) × (c ≡ e)
same-letter b c d e z q =
    let x = letter-of b c z in
    let y = letter-of d e (λ k. z (q ∙ k)) in
    let i = folds-distinct _ _ (λ k. z (x.entry ∙ k)) (sym x.entry ∙ q ∙ y.entry) in
    (omega arith, omega arith)

-- ---- from the front of the bytes

-- bytes without CC, and what folding makes of them
data Folds : List ℕ → List ℕ → Type 0 where
  none : Folds [] []
  stays : (b : ℕ) {t u : List ℕ} → (b ≡ 0xcc → ⊥) → Folds t u → Folds (b ∷ t) (b ∷ u)
  letter : (b c : ℕ) {t u : List ℕ} → (fold_of b c ≡ 0 → ⊥) → Folds t u
      → Folds (b ∷ c ∷ t) (fold_of b c / 256 ∷ 0xcc ∷ fold_of b c % 256 ∷ u)

no-mark : (b : ℕ) → in? 0xcc 0xcc b ≡ false → b ≡ 0xcc → ⊥
no-mark b h e = let k : true ≡ false = rw e at h in let z : ◌≡◌ {A = ℕ} 0 1 = cc in omega arith

folded : (x : List ℕ) → Without 0xcc 0xcc x → Folds x (fold_bytes x)
unfolding fold_bytes pick
folded [] n = none
folded (b ∷ []) n = stays b (no-mark b (n 0 (omega arith))) none
folded (b ∷ c ∷ t) n =
    go (eqb (fold_of b c) 0) refl (folded (c ∷ t) (λ i k. n (suc i) (omega arith)))
    (folded t (λ i k. n (suc (suc i)) (omega arith)))
  where
    go : (k : Bool) → eqb (fold_of b c) 0 ≡ k → Folds (c ∷ t) (fold_bytes (c ∷ t)) → Folds t (fold_bytes t)
        → Folds (b ∷ c ∷ t) (pick k (b ∷ fold_bytes (c ∷ t)) (fold_of b c / 256 ∷ 0xcc ∷ fold_of b c % 256 ∷ fold_bytes t))
    go true e r l = stays b (no-mark b (n 0 (omega arith))) r
    go false e r l = letter b c (eqb-false _ _ e) l

-- behind a byte that stays comes no mark
no-mark-next : {a b : ℕ} {x u w : List ℕ} → Folds x u → b ∷ u ≡ a ∷ 0xcc ∷ w → ⊥
no-mark-next none e = let z : ◌≡◌ {A = ℕ} 0 1 = cc in omega arith
no-mark-next (stays c n r) e = n (cc)
no-mark-next (letter c d z r) e = base-no-mark c d z (cc)

injective : {x y u v : List ℕ} → Folds x u → Folds y v → u ≡ v → x ≡ y
injective none none e = refl
injective none (stays d m s) e = cc
injective none (letter d g y s) e = cc
injective (stays b n r) none e = cc
injective (stays b n r) (stays d m s) e = let i = injective r s (cc) in cc
injective (stays b n r) (letter d g y s) e = absurd (no-mark-next r e)
injective (letter b c z r) none e = cc
injective (letter b c z r) (stays d m s) e = absurd (no-mark-next s (sym e))
injective (letter b c z r) (letter d g y s) e =
    let h : fold_of b c / 256 ≡ fold_of d g / 256 = cc in
    let k : fold_of b c % 256 ≡ fold_of d g % 256 = cc in
    let q = same-letter b c d g z (omega arith) in
    let i = injective r s (cc) in
    cc

pub fold-injective : (x y : List ℕ) → Without 0xcc 0xcc x → Without 0xcc 0xcc y → fold_bytes x ≡ fold_bytes y → x ≡ y
fold-injective x y n m e = injective (folded x n) (folded y m) e
