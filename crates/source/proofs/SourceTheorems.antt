-- What holds of the entry and of the call: the entry that document 02 describes is the one that is computed, and there
-- is at most one.
use Rattle.std.specs.Prelude.{ℕ, suc, ◌≤◌, ◌<◌, ◌≡◌, Bool, ◌↔◌, ltb}
use Rattle.std.proofs.Math.Path.{refl, ap}
use Rattle.std.proofs.Common.{sym, ◌∙◌, arith, leb-true, leb-false, ltb-true, ltb-false, lt-ltb, le-ltb}
use mathlib.Core.List.{List, [], ◌∷◌}
use Rattle.std.proofs.Math.Bool.{true, false}
use Rattle.std.proofs.Math.ListN.{length, get_or, drop, length-drop}
use Rattle.std.proofs.Math.Seq.{drop-cons}
use Rattle.std.proofs.Math.Dec.{leb}
use Rattle.format.specs.Trace.{Wrong, pick, Settled, refused, taken, settle}
use Rattle.format.specs.Format as value
use Rattle.format.specs.Format.{Value}
use Rattle.vob24.specs.Settings.{Settings, starting_budget}
use Rattle.vob24.specs.Calls.{whole_trace}
use Rattle.vob24_theorems.specs.RefusalNumbers.{whole-listed}
use Rattle.source.specs.Source.{debug_list, addresses, Best, none, at, better, best_from, best, Entry, None, Not, shown, no_function, line_in, source_outcome}
use Rattle.source.specs.SourceTheorems.{Found, NoneBelow, Lined, entry, nowhere, unread, past}

-- ---- the entry

-- At most one entry is it.
pub found-one : {a : ℕ} {pcs : List ℕ} {i j : ℕ} → Found a pcs i → Found a pcs j → i ≡ j
found-one {a} {pcs} {i} {j} x y =
    let l = x.greatest j y.within y.below in
    let r = y.greatest i x.within x.below in
    let e : get_or pcs j 0 ≡ get_or pcs i 0 = omega arith in
    omega (arith, x.last j y.within e, y.last i x.within (sym e))

module _ (a : ℕ) (pcs : List ℕ) where
  -- The best of the first n entries.
  data Upto (n : ℕ) : Best → Type 0 where
    nothing : ((j : ℕ) → j < n → a < get_or pcs j 0) → Upto n none
    something : {i : ℕ} → i < n → get_or pcs i 0 ≤ a
        → ((j : ℕ) → j < n → get_or pcs j 0 ≤ a → get_or pcs j 0 ≤ get_or pcs i 0)
        → ((j : ℕ) → j < n → get_or pcs j 0 ≡ get_or pcs i 0 → j ≤ i) → Upto n (at i (get_or pcs i 0))

  -- what holds of the first n and of entry n holds of the first n + 1
  also : {n : ℕ} (P : ℕ → Type 0) → ((j : ℕ) → j < n → P j) → P n → (j : ℕ) → j < suc n → P j
  also {n} P h k j l = go (ltb j n) refl
    where
      go : (d : Bool) → ltb j n ≡ d → P j
      go true e = h j (ltb-true j n e)
      go false e = let i : j ≡ n = omega (arith, l, ltb-false j n e) in rw i k

  -- one entry more
  upto-more : {n : ℕ} {b : Best} → Upto n b → Upto (suc n) (better a b n (get_or pcs n 0))
  unfolding pick
  upto-more {n} (nothing h) = go (leb (get_or pcs n 0) a) refl
    where
      go : (d : Bool) → leb (get_or pcs n 0) a ≡ d → Upto (suc n) (pick d (at n (get_or pcs n 0)) none)
      go true e =
          something {i = n} (omega arith) (leb-true _ _ e)
          (also (λ j. get_or pcs j 0 ≤ a → get_or pcs j 0 ≤ get_or pcs n 0) (λ j l k. absurd (omega (arith, h j l))) (λ k. omega arith))
          (λ j l k. omega arith)
      go false e = nothing (also (λ j. a < get_or pcs j 0) h (leb-false _ _ e))
  upto-more {n} (something {i = i} w h g s) = go (leb (get_or pcs n 0) a) refl (leb (get_or pcs i 0) (get_or pcs n 0)) refl
    where
      stays : (get_or pcs n 0 ≤ a → get_or pcs n 0 < get_or pcs i 0) → Upto (suc n) (at i (get_or pcs i 0))
      stays k =
          something {i = i} (omega arith) h
          (also (λ j. get_or pcs j 0 ≤ a → get_or pcs j 0 ≤ get_or pcs i 0) g (λ l. omega (arith, k l)))
          (also (λ j. get_or pcs j 0 ≡ get_or pcs i 0 → j ≤ i) s (λ e. absurd (omega (arith, k (omega arith)))))

      go : (d : Bool) → leb (get_or pcs n 0) a ≡ d → (c : Bool) → leb (get_or pcs i 0) (get_or pcs n 0) ≡ c
          → Upto (suc n) (pick d (pick c (at n (get_or pcs n 0)) (at i (get_or pcs i 0))) (at i (get_or pcs i 0)))
      go true e true f =
          something {i = n} (omega arith) (leb-true _ _ e)
          (also (λ j. get_or pcs j 0 ≤ a → get_or pcs j 0 ≤ get_or pcs n 0) (λ j l k. omega (arith, g j l k, leb-true (get_or pcs i 0) (get_or pcs n 0) f)) (λ k. omega arith))
          (λ j l k. omega arith)
      go true e false f = stays (λ k. leb-false _ _ f)
      go false e c f = stays (λ k. absurd (omega (arith, leb-false (get_or pcs n 0) a e)))

  upto_rest : (xs : List ℕ) (n : ℕ) {b : Best} → drop n pcs ≡ xs → n ≤ length pcs → Upto n b
      → Upto (length pcs) (best_from a n b xs)
  unfolding best_from
  upto_rest [] n {b} e h u = let l = ap length e in let m : n ≡ length pcs = omega (arith, length-drop n pcs) in rw (← m) u
  upto_rest (x ∷ xs) n {b} e h u =
      let l = ap length e in
      let i : n < length pcs = omega (arith, length-drop n pcs) in
      let c = drop-cons pcs n 0 i in
      let y : x ≡ get_or pcs n 0 = cc in
      let z : drop (suc n) pcs ≡ xs = cc in
      upto_rest xs (suc n) z (omega arith) (rw y (upto-more u))

  best-upto : Upto (length pcs) (best a pcs)
  best-upto = upto_rest pcs 0 refl (omega arith) (nothing (λ j h. absurd (omega arith)))

  -- THE theorem: what is computed is what is described.
  pub best-found : (i : ℕ) → (shown (best a pcs) ≡ Entry i) ↔ Found a pcs i
  best-found i = (go best-upto, back best-upto)
    where
      go : {b : Best} → Upto (length pcs) b → shown b ≡ Entry i → Found a pcs i
      go (nothing h) e = let no : ◌≡◌ {A = ℕ} 0 1 = cc in absurd (omega arith)
      go (something {i = k} w h g s) e = let x : k ≡ i = cc in rw (← x) (record { within = w; below = h; greatest = g; last = s })

      back : {b : Best} → Upto (length pcs) b → Found a pcs i → shown b ≡ Entry i
      back (nothing h) f = absurd (omega (arith, h i f.within, f.below))
      back (something {i = k} w h g s) f = ap Entry (found-one (record { within = w; below = h; greatest = g; last = s }) f)

  pub best_none : (shown (best a pcs) ≡ None) ↔ NoneBelow a pcs
  best_none = (go best-upto, back best-upto)
    where
      go : {b : Best} → Upto (length pcs) b → shown b ≡ None → NoneBelow a pcs
      go (nothing h) e = record { above = h }
      go (something {i = k} w h g s) e = let no : ◌≡◌ {A = ℕ} 0 1 = cc in absurd (omega arith)

      back : {b : Best} → Upto (length pcs) b → NoneBelow a pcs → shown b ≡ None
      back (nothing h) n = refl
      back (something {i = k} w h g s) n = absurd (omega (arith, n.above k w, h))

-- ---- the call

module _ (set : Settings) (s : List ℕ) (function address : ℕ) where
  -- A pack that is refused shows its refusal.
  pub line_refused : {w : Wrong} {p l : ℕ} → settle starting_budget (whole_trace set s) ≡ refused w p l
      → source_outcome set s function address ≡ Not w p l
  unfolding source_outcome
  line_refused e = rw e

  module _ {v : Value} {p l : ℕ} (e : settle starting_budget (whole_trace set s) ≡ taken v p l) where
    line-in : source_outcome set s function address ≡ line_in function address (debug_list v) p l
    unfolding source_outcome
    line-in = rw e

    -- "A number past the debug list is 28 NoSuchFunction (d1 number, d2 list length)"
    pub line-past : length (debug_list v) ≤ function
        → source_outcome set s function address ≡ Not (no_function function (length (debug_list v))) p l
    unfolding pick
    line-past h = line-in ∙ rw (le-ltb function (length (debug_list v)) h)

    module _ (h : function < length (debug_list v)) where
      line_at : source_outcome set s function address ≡ shown (best address (addresses (get_or (debug_list v) function value.none)))
      unfolding pick
      line_at = line-in ∙ rw (lt-ltb function (length (debug_list v)) h)

      pub line-found : (i : ℕ)
          → (source_outcome set s function address ≡ Entry i) ↔ Found address (addresses (get_or (debug_list v) function value.none)) i
      line-found i = rw line_at (best-found address (addresses (get_or (debug_list v) function value.none)) i)

      pub line-none : (source_outcome set s function address ≡ None)
          ↔ NoneBelow address (addresses (get_or (debug_list v) function value.none))
      line-none = rw line_at (best_none address (addresses (get_or (debug_list v) function value.none)))

      -- a function of the list has an answer
      pub line-answered : {w : Wrong} {q m : ℕ} → source_outcome set s function address ≡ Not w q m → ⊥
      line-answered {w} {q} {m} k = go (best address (addresses (get_or (debug_list v) function value.none))) (sym line_at ∙ k)
        where
          go : (b : Best) → shown b ≡ Not w q m → ⊥
          go none i = let no : ◌≡◌ {A = ℕ} 0 1 = cc in absurd (omega arith)
          go (at j pc) i = let no : ◌≡◌ {A = ℕ} 0 1 = cc in absurd (omega arith)

  -- Every answer is an entry, none, or a refusal with one of these numbers.
  pub line-numbered : Lined (source_outcome set s function address)
  line-numbered = go (settle starting_budget (whole_trace set s)) refl
    where
      known : (b : Best) → Lined (shown b)
      known none = nowhere
      known (at i pc) = entry

      go : (r : Settled Value) → settle starting_budget (whole_trace set s) ≡ r → Lined (source_outcome set s function address)
      go (refused w p l) e = rw (line_refused e) (unread (whole-listed set s starting_budget e))
      go (taken v p l) e = by (ltb function (length (debug_list v))) refl
        where
          by : (d : Bool) → ltb function (length (debug_list v)) ≡ d → Lined (source_outcome set s function address)
          by true k = rw (line_at e (ltb-true _ _ k)) (known (best address (addresses (get_or (debug_list v) function value.none))))
          by false k = rw (line-past e (ltb-false _ _ k)) (past refl)
