-- The rule of the table of decompositions: 161 letters in ascending order, each from U+00C0 to U+017F, with a base
-- letter A-Z or a-z and a mark from U+0300 to U+033F. So no part of a decomposition is a letter of the table, and a
-- character outside the range stays.
use Rattle.std.specs.Prelude.{ℕ, suc, ◌≤◌, ◌<◌, ◌≡◌, refl, ◌⊎◌, Bool, true, false, ◌&&◌, ◌||◌, T, leb, eqb, length}
use Rattle.std.proofs.Common.{sym, ap, ◌∙◌, subst, inl, inr, ⊎_elim, arith, eqb-true, leb→le}
use mathlib.Core.List.Memᴰ
use mathlib.Core.List.{List, [], ◌∷◌, Memᴰ}
use Rattle.std.proofs.lemmas.Bool.{eqb-false}
use Rattle.format.specs.Trace.{pick}
use Rattle.vob24.specs.Utf8.{in?}
use Rattle.alike.specs.Decompositions.{decompositions, letter_of, base_of, mark_of, replaced, decomposed}
use Rattle.alike.specs.Table.{Fits, AllFit, done, also, RowOf, Replaced, stays, parts}

-- ---- one computed test over the whole table

abbrev fits? : ℕ → ℕ × ℕ × ℕ → Bool
fits? least d = in? least 0x17f (letter_of d) && ((in? 0x41 0x5a (base_of d) || in? 0x61 0x7a (base_of d)) && in? 0x300 0x33f (mark_of d))

abbrev all_fit? : ℕ → List (ℕ × ℕ × ℕ) → Bool
all_fit? least [] = true
all_fit? least (d ∷ ds) = fits? least d && all_fit? (suc (letter_of d)) ds

pub both : (a b : Bool) → T (a && b) → T a × T b
both true b t = (tt, t)
both false b t = elim t [ ]

either : (a b : Bool) → T (a || b) → T a ⊎ T b
either true b t = inl tt
either false b t = inr t

between : (lo hi b : ℕ) → T (in? lo hi b) → (lo ≤ b) × (b ≤ hi)
between lo hi b t = let r = both (leb lo b) (leb b hi) t in (leb→le lo b r.0, leb→le b hi r.1)

fits : (least : ℕ) (d : ℕ × ℕ × ℕ) → T (fits? least d) → Fits least d
fits least d t =
    let x = both (in? least 0x17f (letter_of d)) ((in? 0x41 0x5a (base_of d) || in? 0x61 0x7a (base_of d)) && in? 0x300 0x33f (mark_of d)) t in
    let y = both (in? 0x41 0x5a (base_of d) || in? 0x61 0x7a (base_of d)) (in? 0x300 0x33f (mark_of d)) x.1 in
    let l = between least 0x17f (letter_of d) x.0 in
    let b = either (in? 0x41 0x5a (base_of d)) (in? 0x61 0x7a (base_of d)) y.0 in
    let m = between 0x300 0x33f (mark_of d) y.1 in
    record {
      above = l.0;
      within = l.1;
      base = ⊎_elim (λ u. inl (between 0x41 0x5a (base_of d) u)) (λ u. inr (between 0x61 0x7a (base_of d) u)) b;
      mark_low = m.0;
      mark_high = m.1;
    }

all_fit : (least : ℕ) (ds : List (ℕ × ℕ × ℕ)) → T (all_fit? least ds) → AllFit least ds
all_fit least [] t = done
all_fit least (d ∷ ds) t =
    let r = both (fits? least d) (all_fit? (suc (letter_of d)) ds) t in
    also (fits least d r.0) (all_fit (suc (letter_of d)) ds r.1)

pub decompositions-fit : AllFit 0xc0 decompositions
unfolding decompositions
decompositions-fit = all_fit 0xc0 decompositions tt

-- States how many rows the table has; no proof cites it.
pub many-decompositions : length decompositions ≡ 161
unfolding decompositions
many-decompositions = refl

lower : {a b : ℕ} {d : ℕ × ℕ × ℕ} → a ≤ b → Fits b d → Fits a d
lower h f = record { above = omega arith; within = f.within; base = f.base; mark_low = f.mark_low; mark_high = f.mark_high }

each_fits : {least : ℕ} {d : ℕ × ℕ × ℕ} {ds : List (ℕ × ℕ × ℕ)} → AllFit least ds → Memᴰ d ds → Fits least d
each_fits (also f r) (Memᴰ.head e) = subst (Fits _) (sym e) f
each_fits (also f r) (Memᴰ.tail m) = lower (omega arith) (each_fits r m)
each_fits {d = d} (done {least = least}) x4 = elim x4 [ ]

by_row : (ds : List (ℕ × ℕ × ℕ)) (c : ℕ) → Replaced ds c (replaced ds c)
unfolding replaced pick
by_row [] c = stays (λ r. Memᴰ.not-nil r.member) refl
by_row (d ∷ ds) c = go (eqb c (letter_of d)) refl (by_row ds c)
  where
    no_row : eqb c (letter_of d) ≡ false → (RowOf ds c → ⊥) → RowOf (d ∷ ds) c → ⊥
    no_row e n r =
        ⊎_elim (λ x. eqb-false c (letter_of d) e (sym r.letter ∙ ap letter_of x))
        (λ m. n (record { row = r.row; member = m; letter = r.letter })) (Memᴰ.cases_cons r.member)

    go : (t : Bool) → eqb c (letter_of d) ≡ t → Replaced ds c (replaced ds c) → Replaced (d ∷ ds) c (replaced (d ∷ ds) c)
    go true e q = parts (record { row = d; member = Memᴰ.head refl; letter = sym (eqb-true c (letter_of d) e) }) (rw e)
    go false e (stays n x) = stays (no_row e n) (rw e x)
    go false e (parts r x) = parts (record { row = r.row; member = Memᴰ.tail r.member; letter = r.letter }) (rw e x)

pub decomposed-by-row : (c : ℕ) → Replaced decompositions c (decomposed c)
unfolding decomposed
decomposed-by-row c = by_row decompositions c

pub row_fits : {c : ℕ} (r : RowOf decompositions c) → Fits 0xc0 r.row
row_fits r = each_fits decompositions-fit r.member

-- a letter has one row
unique : {least : ℕ} {d e : ℕ × ℕ × ℕ} {ds : List (ℕ × ℕ × ℕ)} → AllFit least ds → Memᴰ d ds → Memᴰ e ds
    → letter_of d ≡ letter_of e → d ≡ e
unique (also f r) (Memᴰ.head p) (Memᴰ.head q) h = p ∙ sym q
unique (also f r) (Memᴰ.head p) (Memᴰ.tail m) h = absurd (omega (arith, ap letter_of p, (each_fits r m).above))
unique (also f r) (Memᴰ.tail m) (Memᴰ.head q) h = absurd (omega (arith, ap letter_of q, (each_fits r m).above))
unique (also f r) (Memᴰ.tail m) (Memᴰ.tail n) h = unique r m n h
unique {d = d} {e = e} (done {least = least}) x10 _ h = elim x10 [ ]

pub letter-decomposed : {c : ℕ} (r : RowOf decompositions c) → decomposed c ≡ base_of r.row ∷ mark_of r.row ∷ []
letter-decomposed {c} r = go (decomposed-by-row c)
  where
    go : Replaced decompositions c (decomposed c) → decomposed c ≡ base_of r.row ∷ mark_of r.row ∷ []
    go (stays n x) = absurd (n r)
    go (parts q x) = let e = unique decompositions-fit q.member r.member (q.letter ∙ sym r.letter) in x ∙ rw e

pub other-stays : {c : ℕ} → (RowOf decompositions c → ⊥) → decomposed c ≡ c ∷ []
other-stays {c} h = go (decomposed-by-row c)
  where
    go : Replaced decompositions c (decomposed c) → decomposed c ≡ c ∷ []
    go (stays n x) = x
    go (parts r x) = absurd (h r)

pub decomposed-outside : (c : ℕ) → (c < 0xc0) ⊎ (0x17f < c) → decomposed c ≡ c ∷ []
decomposed-outside c h = other-stays (λ r. let f = row_fits r in ⊎_elim (λ k. omega (arith, r.letter)) (λ k. omega (arith, r.letter)) h)

-- no part of a decomposition is a letter of the table
pub base_stays : {c : ℕ} (r : RowOf decompositions c) → decomposed (base_of r.row) ≡ base_of r.row ∷ []
base_stays r = let f = row_fits r in decomposed-outside _ (inl (⊎_elim (λ k. omega arith) (λ k. omega arith) f.base))

pub mark-stays : {c : ℕ} (r : RowOf decompositions c) → decomposed (mark_of r.row) ≡ mark_of r.row ∷ []
mark-stays r = let f = row_fits r in decomposed-outside _ (inr (omega arith))
