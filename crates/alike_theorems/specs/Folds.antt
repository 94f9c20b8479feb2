-- Folding characters: what is folded stays as it is, what has no letter of the table too, and scalar values fold to
-- scalar values. To be alike is an equivalence of names.
use Rattle.std.specs.Prelude.{ℕ, ◌<◌, ◌≡◌, refl, ◌↔◌, Bool, true, false, T}
use Rattle.std.proofs.Common.{sym, ap, ◌∙◌, inl, ⊎_elim, arith}
use mathlib.Core.List.{List, [], ◌∷◌, ◌++◌, append_assoc, Memᴰ}
use Rattle.format.specs.Reading.{same}
use Rattle.format.proofs.LayoutTheorems.{same-eq, same_refl}
use Rattle.vob24.specs.Utf8.{well_formed, Scalar}
use Rattle.alike.specs.Decompositions.{decompositions, base_of, mark_of, decomposed, fold, scalars, alike}
use Rattle.alike.specs.Table.{RowOf, Replaced, stays, parts}
use Rattle.alike.proofs.Table.{decomposed-by-row, row_fits, base_stays, mark-stays, other-stays}
use Rattle.alike_theorems.specs.Characters.{encode_all, AllScalar, done, also, encoded-well-formed, decoded}

-- ---- folding

pub fold-append : (x y : List ℕ) → fold (x ++ y) ≡ fold x ++ fold y
unfolding fold
fold-append [] y = refl
fold-append (c ∷ x) y = ap (◌++◌ (decomposed c)) (fold-append x y) ∙ sym (append_assoc (decomposed c) (fold x) (fold y))

decomposed-folds : (c : ℕ) → fold (decomposed c) ≡ decomposed c
unfolding fold
decomposed-folds c = go (decomposed-by-row c)
  where
    go : Replaced decompositions c (decomposed c) → fold (decomposed c) ≡ decomposed c
    go (stays n e) = rw e (rw e)
    go (parts r e) = rw e (rw (base_stays r, mark-stays r))

pub fold-twice : (cs : List ℕ) → fold (fold cs) ≡ fold cs
unfolding fold
fold-twice [] = refl
fold-twice (c ∷ cs) = fold-append (decomposed c) (fold cs) ∙ rw (decomposed-folds c, fold-twice cs)

-- characters none of which is a letter of the table
pub no-letter-folds : (cs : List ℕ) → ((c : ℕ) → Memᴰ c cs → RowOf decompositions c → ⊥) → fold cs ≡ cs
unfolding fold
no-letter-folds [] n = refl
no-letter-folds (c ∷ cs) n =
    rw (other-stays (n c (Memᴰ.head refl)), no-letter-folds cs (λ d m. n d (Memᴰ.tail m)))

scalars-append : {x y : List ℕ} → AllScalar x → AllScalar y → AllScalar (x ++ y)
scalars-append done b = b
scalars-append (also s a) b = also s (scalars-append a b)

decomposed-scalar : (c : ℕ) → Scalar c → AllScalar (decomposed c)
decomposed-scalar c s = go (decomposed-by-row c)
  where
    go : Replaced decompositions c (decomposed c) → AllScalar (decomposed c)
    go (stays n e) = rw e (also s done)
    go (parts r e) =
        let f = row_fits r in
        let b : base_of r.row < 0xd800 = ⊎_elim (λ k. omega arith) (λ k. omega arith) f.base in
        let m : mark_of r.row < 0xd800 = omega arith in
        rw e (also (inl b) (also (inl m) done))

pub fold-scalars : {cs : List ℕ} → AllScalar cs → AllScalar (fold cs)
unfolding fold
fold-scalars done = done
fold-scalars (also {v = v} s r) = scalars-append (decomposed-scalar v s) (fold-scalars r)

pub folded-well-formed : (x : List ℕ) → well_formed x ≡ true → well_formed (encode_all (fold (scalars x))) ≡ true
folded-well-formed x h = encoded-well-formed (fold-scalars (decoded x h).all)

-- ---- to be alike

pub same_true : (x y : List ℕ) → x ≡ y → same x y ≡ true
same_true x y e = go (same x y) (rw e (same_refl y))
  where
    go : (d : Bool) → T d → d ≡ true
    go true t = refl
    go false t = elim t [ ]

pub same-agree : (x y u w : List ℕ) → (x ≡ y → u ≡ w) → (u ≡ w → x ≡ y) → same x y ≡ same u w
same-agree x y u w f g = go (same x y) refl (same u w) refl
  where
    go : (a : Bool) → same x y ≡ a → (b : Bool) → same u w ≡ b → a ≡ b
    go true p true q = refl
    go true p false q = sym (same_true u w (f (same-eq x y (rw p tt)))) ∙ q
    go false p true q = sym p ∙ same_true x y (g (same-eq u w (rw q tt)))
    go false p false q = refl

pub alike-iff : (x y : List ℕ) → (alike x y ≡ true) ↔ (fold (scalars x) ≡ fold (scalars y))
unfolding alike
alike-iff x y = (λ e. same-eq (fold (scalars x)) (fold (scalars y)) (rw e tt), same_true (fold (scalars x)) (fold (scalars y)))

pub alike_refl : (x : List ℕ) → alike x x ≡ true
alike_refl x = (alike-iff x x).1 refl

pub alike-sym : (x y : List ℕ) → alike x y ≡ alike y x
unfolding alike
alike-sym x y = same-agree (fold (scalars x)) (fold (scalars y)) (fold (scalars y)) (fold (scalars x)) sym sym

pub alike-trans : (x y z : List ℕ) → alike x y ≡ true → alike y z ≡ true → alike x z ≡ true
alike-trans x y z p q = (alike-iff x z).1 ((alike-iff x y).0 p ∙ (alike-iff y z).0 q)
