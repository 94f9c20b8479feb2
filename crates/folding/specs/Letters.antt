-- The letters that folding replaces: two bytes, and an entry of an ASCII letter and of a byte that ends a mark.
use Rattle.std.specs.Prelude.{ℕ, zero, suc, ◌+◌, ◌-◌, ◌*◌, ◌%◌, ◌≤◌, ◌<◌, ◌≡◌, refl, List, [], ◌∷◌, Bool, true, false, ◌&&◌, ◌||◌, eqb, leb, ltb, get_or}
use Rattle.std.proofs.Common.{◌∙◌, leb-true, ltb-true, ne_eqb}
use Rattle.format.specs.Trace.{pick}
use Rattle.vob24.specs.Utf8.{in?}
use Rattle.folding.specs.Bytes.{folds, fold_of}

pub both_true : (a b : Bool) → (a && b) ≡ true → (a ≡ true) × (b ≡ true)
both_true true b e = (refl, e)
both_true false b e = (e, cc)

-- ---- a computed test over U+00C0 to U+017F: base letters are ASCII, and the bytes that end a mark are not

record Entry (f : ℕ) : Type 0 where
  base : f < 0x8000
  mark : 0x80 ≤ f % 256

abbrev entries? : List ℕ → Bool
entries? [] = true
entries? (f ∷ fs) = (eqb f 0 || (ltb f 0x8000 && leb 0x80 (f % 256))) && entries? fs

entry : (fs : List ℕ) → entries? fs ≡ true → (i : ℕ) → (get_or fs i 0 ≡ 0 → ⊥) → Entry (get_or fs i 0)
entry [] t i z = absurd (z refl)
entry (f ∷ fs) t zero z =
    let x : (ltb f 0x8000 && leb 0x80 (f % 256)) ≡ true = rw (ne_eqb f 0 z) at (both_true (eqb f 0 || (ltb f 0x8000 && leb 0x80 (f % 256))) (entries? fs) t).0 in
    let y = both_true (ltb f 0x8000) (leb 0x80 (f % 256)) x in
    record { base = ltb-true f 0x8000 y.0; mark = leb-true 0x80 (f % 256) y.1 }
entry (f ∷ fs) t (suc i) z = entry fs (both_true (eqb f 0 || (ltb f 0x8000 && leb 0x80 (f % 256))) (entries? fs) t).1 i z

folds-entry : (i : ℕ) → (get_or folds i 0 ≡ 0 → ⊥) → Entry (get_or folds i 0)
unfolding folds
folds-entry = entry folds refl

-- ---- from the entry back to the bytes

pub record Letter (b c : ℕ) : Type 0 where
  pub lead : (0xc3 ≤ b) × (b ≤ 0xc5)
  pub last : (0x80 ≤ c) × (c ≤ 0xbf)
  pub entry : fold_of b c ≡ get_or folds ((b - 0xc3) * 64 + (c - 0x80)) 0
  pub base : fold_of b c < 0x8000
  pub mark : 0x80 ≤ fold_of b c % 256

between : (lo hi b : ℕ) → in? lo hi b ≡ true → (lo ≤ b) × (b ≤ hi)
between lo hi b e = let x = both_true (leb lo b) (leb b hi) e in (leb-true lo b x.0, leb-true b hi x.1)

pub letter-of : (b c : ℕ) → (fold_of b c ≡ 0 → ⊥) → Letter b c
unfolding fold_of pick
letter-of b c z = go (in? 0xc3 0xc5 b) (in? 0x80 0xbf c) refl refl
  where
    go : (t u : Bool) → in? 0xc3 0xc5 b ≡ t → in? 0x80 0xbf c ≡ u → Letter b c
    go true true e f =
        let x : fold_of b c ≡ get_or folds ((b - 0xc3) * 64 + (c - 0x80)) 0 = rw (e, f) in
        let y = folds-entry ((b - 0xc3) * 64 + (c - 0x80)) (λ k. z (x ∙ k)) in
        record { lead = between 0xc3 0xc5 b e; last = between 0x80 0xbf c f; entry = x; base = rw x y.base; mark = rw x y.mark }
    go true false e f = absurd (z (rw (e, f)))
    go false u e f = absurd (z (rw e))
