-- The laws of walks over items.
use Rattle.std.proofs.Common.{ℕ, suc, zero, ◌+◌, ◌-◌, ◌≤◌, ◌<◌, ◌≡◌, refl, ap, sym, ◌∙◌, List, ◌∷◌, arith, add-one}
use Rattle.format.specs.Format.{Format}
use Rattle.in_place.specs.Walk.{Stands, value_at, next_at, items_at, last_at, items_more, items-nil, stand-more, stand-snoc, last_snoc}
use Rattle.in_place.specs.Contract.{Placed, Past, Items, After}

-- one item more
module _ {f : Format} {s : List ℕ} {p k : ℕ} (h : 0 < k) (i : Items f k s p) where
  pub items-here : Placed f s p
  items-here = record { small = i.small; stands = (stand-more f k s p h i.all).0 }

  module _ {q : ℕ} (w : Past f s p q) where
    pub items-next : Items f (k - 1) s q
    items-next = rw w.is (record { small = i.small; all = (stand-more f k s p h i.all).1 })

    pub items-cons : items_at f k s p ≡ value_at f s p ∷ items_at f (k - 1) s q
    items-cons = items_more f k s p h ∙ rw w.is

-- ---- a walk over n items: i of them before p, n - i from there on
pub record Walking (f : Format) (s : List ℕ) (from n p i : ℕ) : Type 0 where
  pub before : Items f i s from
  pub here : p ≡ last_at f i s from
  pub after : Items f (n - i) s p

module _ {f : Format} {s : List ℕ} {from n : ℕ} where
  pub walking_start : Items f n s from → Walking f s from n from 0
  walking_start h =
      let e : n - 0 ≡ n = omega arith in
      let z = items-nil f s from in
      record { before = record { small = h.small; all = z.1 }; here = sym z.2; after = rw e h }

  module _ {p i : ℕ} (h : i < n) (l : Walking f s from n p i) where
    pub walking_here : Placed f s p
    walking_here = items-here {k = n - i} (omega arith) l.after

    pub walking-at : After f s from i p
    walking-at = record { before = l.before; here = walking_here }

    pub walking-next : {z : ℕ} → Past f s p z → Walking f s from n z (i + 1)
    walking-next {z} w =
        let k : n - i - 1 ≡ n - (i + 1) = omega arith in
        let st : Stands f s (last_at f i s from) = rw l.here at walking_here.stands in
        record {
          before = record { small = l.before.small; all = rw (add-one i) (stand-snoc f i s from l.before.all st) };
          here = w.is ∙ ap (next_at f s) l.here ∙ sym (last_snoc f i s from) ∙ ap (λ m. last_at f m s from) (sym (add-one i));
          after = rw k at (items-next {k = n - i} (omega arith) l.after w);
        }

-- ---- a walk past items up to the place `end`, with k to go

pub record Leaving (f : Format) (s : List ℕ) (end p k : ℕ) : Type 0 where
  pub items : Items f k s p
  pub last : end ≡ last_at f k s p

last_more : (f : Format) (k : ℕ) (s : List ℕ) (p : ℕ) → 0 < k → last_at f k s p ≡ last_at f (k - 1) s (next_at f s p)
unfolding last_at
last_more f zero s p h = absurd (omega arith)
last_more f (suc k) s p h = let e : suc k - 1 ≡ k = omega arith in rw e

last_none : (f : Format) (k : ℕ) (s : List ℕ) (p : ℕ) → k ≤ 0 → last_at f k s p ≡ p
unfolding last_at
last_none f zero s p h = refl
last_none f (suc k) s p h = absurd (omega arith)

pub leaving-items : {f : Format} {s : List ℕ} {p n : ℕ} → Items f n s p → Leaving f s (last_at f n s p) p (n - 0)
leaving-items {n = n} h = let e : n - 0 ≡ n = omega arith in record { items = rw e h; last = rw e }

-- of n items, i are passed
module _ {f : Format} {s : List ℕ} {end p n i : ℕ} (l : Leaving f s end p (n - i)) where
  module _ (h : i < n) where
    pub leaving-here : Placed f s p
    leaving-here = items-here (omega arith) l.items

    pub leaving-more : {q : ℕ} → Past f s p q → Leaving f s end q (n - (i + 1))
    leaving-more w =
        let m : 0 < n - i = omega arith in
        let e : n - i - 1 ≡ n - (i + 1) = omega arith in
        rw (← e) (record { items = items-next m l.items w; last = l.last ∙ last_more f (n - i) s p m ∙ rw w.is })

  pub leaving-done : n ≤ i → p ≡ end
  leaving-done h = sym (l.last ∙ last_none f (n - i) s p (omega arith))
