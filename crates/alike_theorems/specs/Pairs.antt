-- The pair of alike names that the call answers: it is the one that document 02 describes.
use Rattle.std.specs.Prelude.{ℕ, ◌≤◌, ◌<◌, ◌≡◌, refl, Bool, true, false, ◌↔◌, ◌⊎◌, T}
use Rattle.std.proofs.Common.{ap, sym, ◌∙◌, inl, inr, ⊎_elim, arith}
use mathlib.Core.List.Memᴰ
use mathlib.Core.List.{List, [], ◌∷◌, ◌++◌, flatten, Memᴰ}
use Rattle.std.proofs.Math.Seq.{append_snoc}
use Rattle.format.specs.Trace.{pick}
use Rattle.format.specs.Format.{Value, start, content}
use Rattle.format.specs.Reading.{same}
use Rattle.format.proofs.LayoutTheorems.{same-eq, same_refl}
use Rattle.alike.specs.Decompositions.{alike, fold, scalars}
use Rattle.alike.specs.Alike.{Names, none, pair, or_else, nearest, pair_after, pair_in}
use Rattle.alike_theorems.specs.Order.{name_end, InOrder, order-split, order-lies, Apart, equal, before, behind, apart}

-- "two names of one table equal after this are a pair": x stands before y in the table, and they are alike.
pub data Before : List Value → Value → Value → Type 0 where
  at_head : {t : List Value} {x y z : Value} → x ≡ z → Memᴰ y t → Before (z ∷ t) x y
  in_rest : {t : List Value} {x y z : Value} → Before t x y → Before (z ∷ t) x y

abbrev pub Alike : Value → Value → Type 0
Alike x y = alike (content x) (content y) ≡ true

pub data PairOf : List (List Value) → Value → Value → Type 0 where
  here : {t : List Value} {ts : List (List Value)} {x y : Value} → Before t x y → Alike x y → PairOf (t ∷ ts) x y
  later : {t : List Value} {ts : List (List Value)} {x y : Value} → PairOf ts x y → PairOf (t ∷ ts) x y

-- Of these pairs "the pair whose later name ends earliest in the file, with the earlier name nearest to it".
pub record Described (Pairs : Value → Value → Type 0) (x y : Value) : Type 0 where
  pub is : Pairs x y
  pub earliest : (x' y' : Value) → Pairs x' y' → name_end y ≤ name_end y'
  pub nearest : (x' : Value) → Pairs x' y → start x' ≤ start x

-- ---- what a search tells of the pairs that it looks for

-- None, where there is none; or one of them, and where O holds the one that is described.
data Told (Pairs : Value → Value → Type 0) (O : Type 0) : Names → Type 0 where
  missing : ((x y : Value) → Pairs x y → ⊥) → Told Pairs O none
  found : {x y : Value} → Pairs x y → (O → Described Pairs x y) → Told Pairs O (pair x y)

-- The pairs of one search and of the next one, and that those of the first come first.
record Joins (R S Q : Value → Value → Type 0) : Type 0 where
  left : {x y : Value} → R x y → Q x y
  right : {x y : Value} → S x y → Q x y
  either : {x y : Value} → Q x y → R x y ⊎ S x y

record Ahead (R S : Value → Value → Type 0) : Type 0 where
  sooner : {x y x' y' : Value} → R x y → S x' y' → name_end y ≤ name_end y'
  nearer : {x y x' : Value} → R x y → S x' y → start x' ≤ start x

told-or : {R S Q : Value → Value → Type 0} {O P U : Type 0} {m n : Names} → Joins R S Q → (U → O) → (U → P)
    → (U → Ahead R S) → Told R O m → Told S P n → Told Q U (or_else m n)
told-or j o p a (found {x} {y} h k) n = found (j.left h) (λ i. record {
  is = j.left h;
  earliest = λ x' y' q. ⊎_elim ((k (o i)).earliest x' y') ((a i).sooner h) (j.either q);
  nearest = λ x' q. ⊎_elim ((k (o i)).nearest x') ((a i).nearer h) (j.either q);
})
told-or j o p a (missing h) (missing k) = missing (λ x y q. ⊎_elim (h x y) (k x y) (j.either q))
told-or j o p a (missing h) (found s k) = found (j.right s) (λ i. record {
  is = j.right s;
  earliest = λ x' y' q. ⊎_elim (λ r. absurd (h x' y' r)) ((k (p i)).earliest x' y') (j.either q);
  nearest = λ x' q. ⊎_elim (λ r. absurd (h x' _ r)) ((k (p i)).nearest x') (j.either q);
})

-- Names that stand in order in some file.
abbrev Placed : List Value → Type 0
Placed vs = (s : List ℕ) × (p : ℕ) × (q : ℕ) × InOrder s p vs q

module _ (vs ws : List Value) where
  placed-left : Placed (vs ++ ws) → Placed vs
  placed-left o = let r = order-split vs o.3 in (o.0, o.1, r.0, r.1)

  placed-right : Placed (vs ++ ws) → Placed ws
  placed-right o = let r = order-split vs o.3 in (o.0, r.0, o.2, r.2)

  placed-apart : {x y : Value} → Placed (vs ++ ws) → Memᴰ x vs → Memᴰ y ws → name_end x < start y
  placed-apart o m n = let r = order-split vs o.3 in omega (arith, (order-lies r.1 m).to, (order-lies r.2 n).from)

  -- the pairs of two searches whose later names stand among vs and among ws
  ahead : {R S : Value → Value → Type 0} → ((x y : Value) → R x y → Memᴰ y vs)
      → ((x y : Value) → S x y → Memᴰ y ws) → Placed (vs ++ ws) → Ahead R S
  ahead i j o = record {
    sooner = λ {x} {y} {x'} {y'} r s. omega (arith, placed-apart o (i x y r) (j x' y' s));
    nearer = λ {x} {y} {x'} r s. absurd (omega (arith, placed-apart o (i x y r) (j x' y s)));
  }

-- ---- of the names before y the last that is alike to it

record Partner (y : Value) (xs : List Value) (x z : Value) : Type 0 where
  later : z ≡ y
  there : Memᴰ x xs
  alikes : Alike x z

nearest-one : (y x : Value) (d : Bool) → alike (content x) (content y) ≡ d
    → Told (Partner y (x ∷ [])) (Unit {0}) (pick d (pair x y) none)
unfolding pick
nearest-one y x true e =
    let it : Partner y (x ∷ []) x y = record { later = refl; there = Memᴰ.head refl; alikes = e } in
    found it (λ _. record {
      is = it;
      earliest = λ x' y' h. omega (arith, ap name_end h.later);
      nearest = λ x' h. omega (arith, ap start (Memᴰ.eq_of_singleton h.there));
    })
nearest-one y x false e = missing (λ x' z h.
    let d = Memᴰ.eq_of_singleton h.there in
    let no : ◌≡◌ {A = ℕ} 0 1 = cc in
    omega arith)

partner-in : {y : Value} {xs ys : List Value} {x z : Value} → Partner y xs x z → Memᴰ x ys → Partner y ys x z
partner-in h m = record { later = h.later; there = m; alikes = h.alikes }

module _ (y x : Value) (xs : List Value) where
  partners : Joins (Partner y xs) (Partner y (x ∷ [])) (Partner y (x ∷ xs))
  partners = record {
    left = λ h. partner-in h (Memᴰ.tail h.there);
    right = λ h. partner-in h (Memᴰ.head (Memᴰ.eq_of_singleton h.there));
    either = λ h. go h h.there;
  }
    where
      go : {w z : Value} → Partner y (x ∷ xs) w z → Memᴰ w (x ∷ xs) → Partner y xs w z ⊎ Partner y (x ∷ []) w z
      go h (Memᴰ.head e) = inr (partner-in h (Memᴰ.head e))
      go h (Memᴰ.tail m) = inl (partner-in h m)

  nearer-ones : Placed (x ∷ xs) → Ahead (Partner y xs) (Partner y (x ∷ []))
  nearer-ones o = record {
    sooner = λ r s. omega (arith, ap name_end r.later, ap name_end s.later);
    nearer = λ r s. omega (arith, placed-apart (x ∷ []) xs o s.there r.there);
  }

nearest-told : (y : Value) (xs : List Value) → Told (Partner y xs) (Placed xs) (nearest y xs)
unfolding nearest
nearest-told y [] = missing (λ x z h. Memᴰ.not-nil h.there)
nearest-told y (x ∷ xs) =
    told-or (partners y x xs) (placed-right (x ∷ []) xs) (λ _. tt) (nearer-ones y x xs)
    (nearest-told y xs) (nearest-one y x _ refl)

-- ---- the pair of a table whose names b were looked at: the later name is behind these

data PairAfter : List Value → List Value → Value → Value → Type 0 where
  now : {b t : List Value} {x y z : Value} → Partner z b x y → PairAfter b (z ∷ t) x y
  onward : {b t : List Value} {x y z : Value} → PairAfter (b ++ (z ∷ [])) t x y → PairAfter b (z ∷ t) x y

after-there : {b t : List Value} (x y : Value) → PairAfter b t x y → Memᴰ y t
after-there x y (now h) = Memᴰ.head h.later
after-there x y (onward h) = Memᴰ.tail (after-there x y h)

module _ (b : List Value) (z : Value) (t : List Value) where
  afters : Joins (Partner z b) (PairAfter (b ++ (z ∷ [])) t) (PairAfter b (z ∷ t))
  afters = record { left = now; right = onward; either = go }
    where
      go : {x y : Value} → PairAfter b (z ∷ t) x y → Partner z b x y ⊎ PairAfter (b ++ (z ∷ [])) t x y
      go (now h) = inl h
      go (onward h) = inr h

  placed-onward : Placed (b ++ (z ∷ t)) → Placed (b ++ (z ∷ []) ++ t)
  placed-onward o = rw append_snoc o

after-told : (b t : List Value) → Told (PairAfter b t) (Placed (b ++ t)) (pair_after b t)
unfolding pair_after
after-told b [] = missing (λ x y h. Memᴰ.not-nil (after-there x y h))
after-told b (z ∷ t) =
    told-or (afters b z t) (placed-left b (z ∷ t)) (placed-onward b z t)
    (λ o. ahead (z ∷ []) t (λ x y h. Memᴰ.head h.later) after-there (placed-right b (z ∷ t) o))
    (nearest-told z b) (after-told (b ++ (z ∷ [])) t)

-- the names looked at or the table has the earlier name
after-pair : {b t : List Value} {x y : Value} → PairAfter b t x y → Alike x y × (Memᴰ x b ⊎ Before t x y)
after-pair (now h) = (h.alikes, inl h.there)
after-pair {b} {x = x} {y = y} (onward {t = t} {z = z} h) = let r = after-pair h in (r.0, go r.1)
  where
    go : Memᴰ x (b ++ (z ∷ [])) ⊎ Before t x y → Memᴰ x b ⊎ Before (z ∷ t) x y
    go (inl m) =
        ⊎_elim inl (λ k. inr (at_head (Memᴰ.eq_of_singleton k) (after-there x y h))) (Memᴰ.append_cases b m)
    go (inr k) = inr (in_rest k)

pair-behind : {x y : Value} {b t : List Value} → Alike x y → Memᴰ x b → Memᴰ y t → PairAfter b t x y
pair-behind a m (Memᴰ.head e) = now (record { later = e; there = m; alikes = a })
pair-behind a m (Memᴰ.tail k) = onward (pair-behind a (Memᴰ.append_left _ m) k)

pair-in : (b : List Value) {t : List Value} {x y : Value} → Alike x y → Before t x y → PairAfter b t x y
pair-in b a (at_head e m) = onward (pair-behind a (Memᴰ.append_right b (Memᴰ.head e)) m)
pair-in b a (in_rest h) = onward (pair-in _ a h)

-- ---- the pair of all tables

module _ (t : List Value) (ts : List (List Value)) where
  tables-join : Joins (PairAfter [] t) (PairOf ts) (PairOf (t ∷ ts))
  tables-join = record {
    left = λ h. let r = after-pair h in here (⊎_elim (λ m. absurd (Memᴰ.not-nil m)) (λ k. k) r.1) r.0;
    right = later;
    either = go;
  }
    where
      go : {x y : Value} → PairOf (t ∷ ts) x y → PairAfter [] t x y ⊎ PairOf ts x y
      go (here h a) = inl (pair-in [] a h)
      go (later h) = inr h

before-there : {t : List Value} {x y : Value} → Before t x y → Memᴰ x t × Memᴰ y t
before-there (at_head e m) = (Memᴰ.head e, Memᴰ.tail m)
before-there (in_rest h) = let r = before-there h in (Memᴰ.tail r.0, Memᴰ.tail r.1)

pub pair-there : {ts : List (List Value)} {x y : Value} → PairOf ts x y
    → Memᴰ x (flatten ts) × Memᴰ y (flatten ts)
unfolding flatten
pair-there (here {ts = ts} h a) =
    let r = before-there h in (Memᴰ.append_left (flatten ts) r.0, Memᴰ.append_left (flatten ts) r.1)
pair-there (later {t = t} h) = let r = pair-there h in (Memᴰ.append_right t r.0, Memᴰ.append_right t r.1)

pub pair-alike : {ts : List (List Value)} {x y : Value} → PairOf ts x y → Alike x y
pair-alike (here h a) = a
pair-alike (later h) = pair-alike h

pairs-told : (ts : List (List Value)) → Told (PairOf ts) (Placed (flatten ts)) (pair_in ts)
unfolding pair_in flatten
pairs-told [] = missing (λ x y h. Memᴰ.not-nil (pair-there h).1)
pairs-told (t ∷ ts) =
    told-or (tables-join t ts) (placed-left t (flatten ts)) (placed-right t (flatten ts))
    (ahead t (flatten ts) after-there (λ x y h. (pair-there h).1)) (after-told [] t) (pairs-told ts)

-- ---- what holds of the pair

told-pair : {R : Value → Value → Type 0} {O : Type 0} {n : Names} {x y : Value} → Told R O n → n ≡ pair x y
    → R x y × (O → Described R x y)
told-pair {x = x} {y = y} (found {x = v} {y = w} h k) e =
    let i : v ≡ x = cc in
    let j : w ≡ y = cc in
    (rw (← i, ← j) h, λ o. rw (← i, ← j) (k o))
told-pair (missing h) e = let no : ◌≡◌ {A = ℕ} 0 1 = cc in absurd (omega arith)

told_none : {R : Value → Value → Type 0} {O : Type 0} {n : Names} → Told R O n → n ≡ none → (x y : Value) → R x y → ⊥
told_none (found h k) e = let no : ◌≡◌ {A = ℕ} 0 1 = cc in absurd (omega arith)
told_none (missing h) e = h

module _ (ts : List (List Value)) where
  -- "two names of one table equal after this are a pair"
  pub pair_is : {x y : Value} → pair_in ts ≡ pair x y → PairOf ts x y
  pair_is e = (told-pair (pairs-told ts) e).0

  -- "or none exactly if no pair exists"
  pub none-iff : (pair_in ts ≡ none) ↔ ((x y : Value) → PairOf ts x y → ⊥)
  none-iff = (told_none (pairs-told ts), λ h. go (pair_in ts) refl h)
    where
      go : (n : Names) → pair_in ts ≡ n → ((x y : Value) → PairOf ts x y → ⊥) → pair_in ts ≡ none
      go none e h = e
      go (pair x y) e h = absurd (h x y (pair_is e))

-- Alike is equal once decomposed, so what is alike to one name is alike among itself.
decomposed-equal : (x y : Value) → Alike x y → fold (scalars (content x)) ≡ fold (scalars (content y))
unfolding alike
decomposed-equal x y e = same-eq (fold (scalars (content x))) (fold (scalars (content y))) (rw e tt)

alike_both : (x x' y : Value) → Alike x y → Alike x' y → Alike x x'
unfolding alike
alike_both x x' y a b =
    rw (decomposed-equal x y a, decomposed-equal x' y b) (go (same decomposed decomposed) (same_refl decomposed))
  where
    decomposed : List ℕ
    decomposed = fold (scalars (content y))

    go : (d : Bool) → T d → d ≡ true
    go true h = refl
    go false h = elim h [ ]

before-apart : {t : List Value} {x y : Value} → Placed t → Before t x y → name_end x < start y
before-apart o (at_head {t} {z = z} e m) = placed-apart (z ∷ []) t o (Memᴰ.head e) m
before-apart o (in_rest {t} {z = z} h) = before-apart (placed-right (z ∷ []) t o) h

pair-apart : {ts : List (List Value)} {x y : Value} → Placed (flatten ts) → PairOf ts x y → name_end x < start y
unfolding flatten
pair-apart o (here {t} {ts} h a) = before-apart (placed-left t (flatten ts) o) h
pair-apart o (later {t} {ts} h) = pair-apart (placed-right t (flatten ts) o) h

-- Two names before a third in one table are one, or one of them is before the other; two partners of a name, which
-- stands in one table only, are one or a pair.
data OneOr (R : Value → Value → Type 0) (x x' : Value) : Type 0 where
  one : x ≡ x' → OneOr R x x'
  fore : R x x' → OneOr R x x'
  back : R x' x → OneOr R x x'

before-both : {t : List Value} {x x' y : Value} → Before t x y → Before t x' y → OneOr (Before t) x x'
before-both (at_head e m) (at_head d n) = one (e ∙ sym d)
before-both (at_head e m) (in_rest h) = fore (at_head e (before-there h).0)
before-both (in_rest h) (at_head e m) = back (at_head e (before-there h).0)
before-both (in_rest {t} {x} {y} {z} h) (in_rest {x = x'} k) = go (before-both h k)
  where
    go : OneOr (Before t) x x' → OneOr (Before (z ∷ t)) x x'
    go (one e) = one e
    go (fore h) = fore (in_rest h)
    go (back h) = back (in_rest h)

pair-both : {ts : List (List Value)} {x x' y : Value} → Placed (flatten ts) → PairOf ts x y → PairOf ts x' y
    → OneOr (PairOf ts) x x'
unfolding flatten
pair-both o (here {t} {ts} {x} {y} h a) (here {x = x'} k b) = go (before-both h k)
  where
    go : OneOr (Before t) x x' → OneOr (PairOf (t ∷ ts)) x x'
    go (one e) = one e
    go (fore i) = fore (here i (alike_both x x' y a b))
    go (back i) = back (here i (alike_both x' x y b a))
pair-both o (here {t} {ts} h a) (later k) =
    absurd (omega (arith, placed-apart t (flatten ts) o (before-there h).1 (pair-there k).1))
pair-both o (later {t} {ts} k) (here h a) =
    absurd (omega (arith, placed-apart t (flatten ts) o (before-there h).1 (pair-there k).1))
pair-both o (later {t} {ts} {x} h) (later {x = x'} k) = go (pair-both (placed-right t (flatten ts) o) h k)
  where
    go : OneOr (PairOf ts) x x' → OneOr (PairOf (t ∷ ts)) x x'
    go (one e) = one e
    go (fore i) = fore (later i)
    go (back i) = back (later i)

-- names at one place are one name
one_end : {x y : Value} → Apart x y → name_end x ≡ name_end y → x ≡ y
one_end (equal i) e = i
one_end (before i) e = absurd (omega arith)
one_end (behind i) e = absurd (omega arith)

one-start : {x y : Value} → Apart x y → start x ≡ start y → x ≡ y
one-start (equal i) e = i
one-start (before i) e = absurd (omega arith)
one-start (behind i) e = absurd (omega arith)

module _ {s : List ℕ} {p q : ℕ} (ts : List (List Value)) (o : InOrder s p (flatten ts) q) where
  placed : Placed (flatten ts)
  placed = (s, p, q, o)

  -- The earlier name of a pair ends before the later one starts.
  pub pair-order : {x y : Value} → PairOf ts x y → name_end x < start y
  pair-order h = pair-apart placed h

  -- At most one pair is described.
  pub one-described : {x y x' y' : Value} → Described (PairOf ts) x y → Described (PairOf ts) x' y' → (x ≡ x') × (y ≡ y')
  one-described {x} {y} {x'} {y'} d e =
      let m = pair-there d.is in
      let n = pair-there e.is in
      let ends : name_end y ≡ name_end y' = omega (arith, d.earliest x' y' e.is, e.earliest x y d.is) in
      let i : y ≡ y' = one_end (apart o m.1 n.1) ends in
      let starts : start x ≡ start x' = omega (arith, d.nearest x' (rw i e.is), e.nearest x (rw (← i) d.is)) in
      (one-start (apart o m.0 n.0) starts, i)

  -- The pair that is answered is the one described, and no other.
  pub described-iff : (x y : Value) → (pair_in ts ≡ pair x y) ↔ Described (PairOf ts) x y
  described-iff x y = (λ e. (told-pair (pairs-told ts) e).1 placed, λ d. go (pair_in ts) refl d)
    where
      go : (n : Names) → pair_in ts ≡ n → Described (PairOf ts) x y → pair_in ts ≡ pair x y
      go none e d = absurd ((none-iff ts).0 e x y d.is)
      go (pair x' y') e d = let i = one-described ((told-pair (pairs-told ts) e).1 placed) d in e ∙ cc

  -- Its later name has one earlier partner only: of three names that are alike the first two are a pair that ends
  -- earlier.
  pub one-partner : {x x' y : Value} → Described (PairOf ts) x y → PairOf ts x' y → x' ≡ x
  one-partner {x} {x'} {y} d h = go (pair-both placed h d.is)
    where
      go : OneOr (PairOf ts) x' x → x' ≡ x
      go (one e) = e
      go (fore i) = absurd (omega (arith, d.earliest x' x i, pair-order d.is))
      go (back i) = absurd (omega (arith, d.earliest x x' i, pair-order h))
