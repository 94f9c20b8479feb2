-- The laws of the pair of tables one after the other, and of the walk over the tables of a list's items.
use Rattle.std.proofs.Common.{ℕ, ◌+◌, ◌-◌, ◌≤◌, ◌<◌, ◌≡◌, refl, ap, sym, ◌∙◌, List, [], ◌∷◌, ◌++◌, arith, ControlFlow, Continue, Break}
use mathlib.Core.List.{flat_map}
use Rattle.format.specs.Format.{Value, Format}
use Rattle.alike.specs.Alike.{Names, none, pair, or_else, pair_after, pair_in, shown}
use Rattle.in_place.specs.Walk.{value_at, next_at, items_at, items-none}
use Rattle.in_place.specs.Contract as place
use Rattle.in_place.specs.Contract.{WordIs, Placed}
use Rattle.in_place.proofs.Walking.{items-cons}
use Rattle.alike_names.specs.Contract.{pair_of, Walks, found, past}
use Rattle.alike_names.specs.Tables.{tables_in, WalksAt}
use Rattle.alike_names.specs.declared.AlikeNames.{AlikeNames}
use Rattle.in_place.proofs.Lists.{ListStands}
use Rattle.in_place.proofs.Walking.{Leaving, leaving-here, leaving-more, leaving-done}
use Rattle.alike_names.proofs.Lists.{leaving-list}

-- ---- tables one after the other

pub pair-first : (x y : Names) {n : AlikeNames} → shown x ≡ pair_of n → shown (or_else x y) ≡ pair_of n
pair-first none y e = let z : ⊥ = cc in absurd z
pair-first (pair u v) y e = e

else-else : (x y z : Names) → or_else (or_else x y) z ≡ or_else x (or_else y z)
else-else none y z = refl
else-else (pair u v) y z = refl

pub pair-append : (ts us : List (List Value)) → pair_in (ts ++ us) ≡ or_else (pair_in ts) (pair_in us)
unfolding pair_in
pair-append [] us = refl
pair-append (t ∷ ts) us = rw (pair-append ts us) (sym (else-else (pair_after [] t) (pair_in ts) (pair_in us)))

module _ (ts us : List (List Value)) {m next : ℕ} where
  pub walks-found : {x : AlikeNames} → Walks ts m (Break x) → Walks (ts ++ us) next (Break x)
  walks-found (found e) = found (ap shown (pair-append ts us) ∙ pair-first (pair_in ts) (pair_in us) e)

  pub walks-then : {p : ℕ} {q : ControlFlow AlikeNames ℕ} → Walks ts m (Continue p) → Walks us next q → Walks (ts ++ us) next q
  walks-then (past e i) (found j) = found (ap shown (pair-append ts us ∙ ap (λ x. or_else x (pair_in us)) e) ∙ j)
  walks-then (past e i) (past j k) = past (pair-append ts us ∙ ap (λ x. or_else x (pair_in us)) e ∙ j) k

-- ---- the tables of a list, with k items to go from p on

pub record Walked (g f : Format) (ts : Value → List (List Value)) (s : List ℕ) (from p k : ℕ) : Type 0 where
  pub leaves : Leaving f s (next_at g s from) p k
  pub leads : pair_in (tables_in ts (value_at g s from)) ≡ pair_in (flat_map ts (items_at f k s p))

module _ {g f : Format} {ts : Value → List (List Value)} {s : List ℕ} {from : ℕ} where
  pub walked_start : {n : ℕ} → Placed g s from → ListStands g f s from → WordIs s from n
      → Walked g f ts s from (from + 4) (n - 0)
  walked_start {n} h l w = let e : n - 0 ≡ n = omega arith in record { leaves = leaving-list h l w; leads = rw (e, w.is, l.value) }

  -- of n items, i are passed
  module _ {p n i : ℕ} (h : i < n) (l : Walked g f ts s from p (n - i)) where
    pub walked_here : Placed f s p
    walked_here = leaving-here l.leaves h

    walked_step : {z : ℕ} → place.Past f s p z
        → pair_in (tables_in ts (value_at g s from)) ≡ or_else (pair_in (ts (value_at f s p))) (pair_in (flat_map ts (items_at f (n - (i + 1)) s z)))
    unfolding flat_map
    walked_step {z} w =
        let e : n - i - 1 ≡ n - (i + 1) = omega arith in
        l.leads ∙ ap (λ vs. pair_in (flat_map ts vs)) (rw e at (items-cons {k = n - i} (omega arith) l.leaves.items w)) ∙ pair-append (ts (value_at f s p)) _

    module _ {w : ControlFlow AlikeNames ℕ} (a : WalksAt f ts s p w) where
      pub walked-found : {x : AlikeNames} → w ≡ Break x → WalksAt g (tables_in ts) s from (Break x)
      walked-found {x} e = record { walks = go (rw e at a.walks) }
        where
          go : Walks (ts (value_at f s p)) (next_at f s p) (Break x)
              → Walks (tables_in ts (value_at g s from)) (next_at g s from) (Break x)
          go (found j) = found (ap shown (walked_step (record { is = refl })) ∙ pair-first (pair_in (ts (value_at f s p))) _ j)

      pub walked_more : {z : ℕ} → w ≡ Continue z → Walked g f ts s from z (n - (i + 1))
      walked_more {z} e = go (rw e at a.walks)
        where
          go : Walks (ts (value_at f s p)) (next_at f s p) (Continue z) → Walked g f ts s from z (n - (i + 1))
          go (past j k) =
              let x : place.Past f s p z = record { is = k } in
              record { leaves = leaving-more l.leaves h x; leads = walked_step x ∙ ap (λ y. or_else y (pair_in (flat_map ts (items_at f (n - (i + 1)) s z)))) j }

  pub walked-done : {p n i : ℕ} → n ≤ i → Walked g f ts s from p (n - i) → WalksAt g (tables_in ts) s from (Continue p)
  unfolding flat_map pair_in
  walked-done {p} {n} {i} h l = record { walks = past (l.leads ∙ rw (items-none f (n - i) s p (omega arith))) (leaving-done l.leaves h) }
