-- The laws of texts: lengths, and bytes compared.
use Rattle.std.proofs.Common.{ℕ, ◌&&◌, suc, zero, ◌+◌, ◌-◌, ◌≤◌, ◌<◌, ◌≡◌, refl, ap, sym, ◌∙◌, List, [], ◌∷◌, Bool, true, false, arith, add-one, eqb, length, get_or, drop-cons}
use Rattle.std.specs.Cmp.Lexicographic.{pointwise}
use Rattle.format.specs.Trace.{pick}
use Rattle.format.specs.Reading.{part, same}
use Rattle.format.proofs.TraceTheorems.{part_length}
use Rattle.in_place.specs.Items.{text_at}
use Rattle.in_place.specs.Contract.{TextAt, WordIs, BlankIs}

-- the room of a text, by its length
module _ {s : List ℕ} {p n : ℕ} (h : TextAt s p) (e : WordIs s p n) where
  pub text-room : p + 4 + n ≤ length s
  text-room = omega (arith, h.room, e.is)

  pub text-part : text_at s p ≡ part s (p + 4) n
  text-part = rw (← e.is)

  pub text-length : length (text_at s p) ≡ n
  text-length = rw (← e.is) (part_length s (p + 4) n text-room)

-- ---- bytes compared

pub piece : (s : List ℕ) (p k : ℕ) → 0 < k → p + k ≤ length s → part s p k ≡ get_or s p 0 ∷ part s (p + 1) (k - 1)
piece s p zero h b = absurd (omega arith)
piece s p (suc k) h b =
    let e : suc k - 1 ≡ k = omega arith in
    let i : p < length s = omega arith in
    rw (drop-cons s p 0 i, e, add-one)

same-long : (xs ys : List ℕ) → (length xs ≡ length ys → ⊥) → same xs ys ≡ false
unfolding same pick
same-long [] [] h = absurd (h refl)
same-long [] (y ∷ ys) h = refl
same-long (x ∷ xs) [] h = refl
same-long (x ∷ xs) (y ∷ ys) h = rw (same-long xs ys (λ e. h (ap suc e))) (go (eqb x y))
  where
    go : (b : Bool) → pick b false false ≡ false
    go true = refl
    go false = refl

-- as the slices' `==` has it
pub same_pointwise : (xs ys : List ℕ) → pointwise eqb xs ys ≡ same xs ys
unfolding same pick
same_pointwise [] [] = refl
same_pointwise [] (y ∷ ys) = refl
same_pointwise (x ∷ xs) [] = refl
same_pointwise (x ∷ xs) (y ∷ ys) = go (eqb x y) (same_pointwise xs ys)
  where
    go : (t : Bool) {q r : Bool} → q ≡ r → (t && q) ≡ pick t r false
    go true e = e
    go false e = refl

-- "_"
module _ {s : List ℕ} {p n : ℕ} (h : TextAt s p) (e : WordIs s p n) where
  pub blank-long : (n ≡ 1 → ⊥) → BlankIs s p false
  blank-long f = record { is = sym (same-long _ _ (λ z. f (sym (text-length h e) ∙ z))) }

  pub blank-one : n ≡ 1 → BlankIs s p (eqb (get_or s (p + 4) 0) 95)
  unfolding same pick
  blank-one f =
      let i = text-room h e in
      record { is = sym (ap (λ x. same x (95 ∷ [])) (text-part h e ∙ ap (part s (p + 4)) f ∙ piece s (p + 4) 1 (omega arith) (omega arith)) ∙ go (eqb (get_or s (p + 4) 0) 95)) }
    where
      go : (b : Bool) → pick b true false ≡ b
      go true = refl
      go false = refl
