-- The laws of the search of one table: names alike are keys that repeat, and the nearest of them is the pair's earlier
-- name.
use Rattle.std.proofs.Common.{ℕ, zero, suc, ◌+◌, ◌-◌, ◌/◌, ◌%◌, ◌≤◌, ◌<◌, ◌≡◌, refl, ap, sym, ◌∙◌, List, [], ◌∷◌, ◌++◌, map, Bool, true, false, arith, add-one, T, eqb, eq-eqb, Continue, Break, Option, Some}
use Rattle.format.specs.Trace.{pick}
use Rattle.format.specs.Format.{Value, content, first, Format, seq}
use Rattle.format.specs.Reading.{same}
use Rattle.format.proofs.LayoutTheorems.{same-eq}
use Rattle.vob24.specs.Utf8.{well_formed}
use Rattle.vob24.specs.Leaves.{str}
use Rattle.vob24.specs.Questions.{among, named, Identity, among_identities}
use Rattle.vob24.specs.Grammar.{struct_field, interface_method, runtime_method, method, runtime_field}
use Rattle.alike.specs.Decompositions.{alike}
use Rattle.alike.specs.Alike.{Names, none, pair, or_else, nearest, pair_after, pair_in, shown}
use Rattle.alike.specs.Alike as alike
use Rattle.alike_theorems.specs.Folds.{same-agree}
use Rattle.alike_theorems.specs.FoldedBytes.{alike-bytes}
use Rattle.alike_theorems.specs.NewNames.{AllNew, done, also}
use Rattle.folding.specs.Bytes.{fold_of, fold_bytes, Without}
use Rattle.folding.specs.FoldLaws.{fold-plain}
use Rattle.folding.specs.Contract as folding
use Rattle.in_place.specs.declared.Item.{Item}
use Rattle.in_place.specs.declared.Item.TheVariants.{Name, StructField, InterfaceMethod, RuntimeMethod, NamedMethod, RuntimeField}
use Rattle.in_place.specs.declared.Table.TheVariants.{Alike}
use Rattle.in_place.specs.Walk.{Stands, AllStand, value_at, next_at, items_at, last_at, parts, passed, items_more, items-none, items-snoc, items-nil, last_snoc}
use Rattle.in_place.specs.Items.{format_of, name_of, text_at}
use Rattle.in_place.specs.Tables.{key_of}
use Rattle.in_place.specs.Contract.{TextAt, WordIs, Placed, Past, Items, PastItems, TwoPlaced, SameKey}
use Rattle.in_place.proofs.Texts.{text-part, text-length}
use Rattle.in_place.proofs.Places.{name-stands, item-name}
use Rattle.in_place.proofs.Walking.{Walking, walking_start, walking_here, walking-at, walking-next}
use Rattle.repeat_search.specs.Keys.{repeat_at, FirstRepeat}
use Rattle.repeat_search.specs.Tables.{exempt, repeats, keys_at}
use Rattle.repeat_search.proofs.Tables.{repeats-at}
use Rattle.alike_names.specs.Contract.{table_of, TableAt, found, past, TableWalk}
use Rattle.alike_names.specs.Search.{All, ItemsWithout, Repeats, name_at, NearerIs, PartnerIs}
use Rattle.alike_names.specs.Search as search

-- ---- all values of a list

all_snoc : {P : Value → Type 0} {vs : List Value} {v : Value} → All P vs → P v → All P (vs ++ (v ∷ []))
all_snoc search.none h = search.also h search.none
all_snoc (search.also x r) h = search.also x (all_snoc r h)

-- ---- the names of a table, item by item

exempted : Item → Value → Bool
exempted i v = exempt (Alike i) (content (name_of i v))

table-nil : (i : Item) → table_of i [] ≡ []
unfolding named
table-nil Name = refl
table-nil StructField = refl
table-nil InterfaceMethod = refl
table-nil RuntimeMethod = refl
table-nil NamedMethod = refl
table-nil RuntimeField = refl

table-cons : (i : Item) (v : Value) (vs : List Value)
    → table_of i (v ∷ vs) ≡ pick (exempted i v) (table_of i vs) (name_of i v ∷ table_of i vs)
unfolding named pick exempted
table-cons Name v vs = refl
table-cons StructField v vs = refl
table-cons InterfaceMethod v vs = refl
table-cons RuntimeMethod v vs = refl
table-cons NamedMethod v vs = refl
table-cons RuntimeField v vs = refl

module _ (i : Item) (v : Value) where
  table-out : (vs : List Value) → exempted i v ≡ true → table_of i (v ∷ vs) ≡ table_of i vs
  unfolding pick
  table-out vs e = table-cons i v vs ∙ rw e

  table-in : (vs : List Value) → exempted i v ≡ false → table_of i (v ∷ vs) ≡ name_of i v ∷ table_of i vs
  unfolding pick
  table-in vs e = table-cons i v vs ∙ rw e

  -- at its end
  snoc-out : (vs : List Value) → exempted i v ≡ true → table_of i (vs ++ (v ∷ [])) ≡ table_of i vs
  snoc-out [] e = table-out [] e
  snoc-out (u ∷ vs) e = table-cons i u (vs ++ (v ∷ [])) ∙ rw (snoc-out vs e) (sym (table-cons i u vs))

  snoc-in : (vs : List Value) → exempted i v ≡ false → table_of i (vs ++ (v ∷ [])) ≡ table_of i vs ++ (name_of i v ∷ [])
  unfolding pick
  snoc-in [] e = table-in [] e ∙ rw (table-nil i)
  snoc-in (u ∷ vs) e = table-cons i u (vs ++ (v ∷ [])) ∙ rw (snoc-in vs e, table-cons i u vs) (go (exempted i u))
    where
      go : (b : Bool)
          → pick b (table_of i vs ++ (name_of i v ∷ [])) (name_of i u ∷ (table_of i vs ++ (name_of i v ∷ [])))
          ≡ pick b (table_of i vs) (name_of i u ∷ table_of i vs) ++ (name_of i v ∷ [])
      go true = refl
      go false = refl

-- what holds of each item's name holds of each name of the table
table-all : (i : Item) {P : Value → Type 0} {vs : List Value} → All (λ v. P (name_of i v)) vs → All P (table_of i vs)
unfolding pick
table-all i search.none = rw (table-nil i) search.none
table-all i {P} (search.also {v = v} {vs = vs} x r) = rw (table-cons i v vs) (go (exempted i v) (table-all i r))
  where
    go : (b : Bool) → All P (table_of i vs) → All P (pick b (table_of i vs) (name_of i v ∷ table_of i vs))
    go true a = a
    go false a = search.also x a

-- ---- names that were read are well-formed

abbrev Formed : Value → Type 0
Formed v = well_formed (content v) ≡ true

true_of : (b : Bool) → T b → b ≡ true
true_of true t = refl
true_of false t = elim t [ ]

str-formed : {s : List ℕ} {p : ℕ} → Stands str s p → Formed (value_at str s p)
str-formed h = let a = passed h in ap (λ v. well_formed (content v)) a.3 ∙ true_of _ a.2

first-formed : {g : Value → Format} {s : List ℕ} {p : ℕ} → Stands (seq str g) s p → Formed (first (value_at (seq str g) s p))
first-formed h = let a = parts h in ap (λ v. well_formed (content (first v))) a.value ∙ str-formed a.fore

name-formed : (i : Item) {s : List ℕ} {p : ℕ} → Stands (format_of i) s p → Formed (name_of i (value_at (format_of i) s p))
unfolding struct_field interface_method runtime_method method runtime_field
name-formed Name h = str-formed h
name-formed StructField h = first-formed h
name-formed InterfaceMethod h = first-formed h
name-formed RuntimeMethod h = first-formed h
name-formed NamedMethod h = first-formed h
name-formed RuntimeField h = first-formed h

items-formed : (i : Item) (n : ℕ) (s : List ℕ) (p : ℕ) → AllStand (format_of i) n s p
    → All (λ v. Formed (name_of i v)) (items_at (format_of i) n s p)
unfolding AllStand items_at
items-formed i zero s p a = search.none
items-formed i (suc n) s p a = search.also (name-formed i a.0) (items-formed i n s (next_at (format_of i) s p) a.1)

-- ---- the nearest name alike

nearest-none : (y : Value) {xs : List Value} → All (λ x. alike (content x) (content y) ≡ false) xs → nearest y xs ≡ none
unfolding nearest pick
nearest-none y search.none = refl
nearest-none y (search.also e r) = rw (nearest-none y r, e)

nearest-snoc : (y : Value) (xs : List Value) (x : Value)
    → nearest y (xs ++ (x ∷ [])) ≡ pick (alike (content x) (content y)) (pair x y) (nearest y xs)
unfolding nearest pick
nearest-snoc y [] x = refl
nearest-snoc y (u ∷ xs) x = rw (nearest-snoc y xs x) (go (alike (content x) (content y)))
  where
    go : (b : Bool)
        → or_else (pick b (pair x y) (nearest y xs)) (pick (alike (content u) (content y)) (pair u y) none)
        ≡ pick b (pair x y) (or_else (nearest y xs) (pick (alike (content u) (content y)) (pair u y) none))
    go true = refl
    go false = refl

-- "_" folds to itself alone
same_refl : (x : List ℕ) → same x x ≡ true
unfolding same pick
same_refl [] = refl
same_refl (b ∷ x) = rw (eq-eqb b b refl) (same_refl x)

same-sym : (x y : List ℕ) → same x y ≡ same y x
same-sym x y = go (same x y) (same y x) refl refl
  where
    go : (a b : Bool) → same x y ≡ a → same y x ≡ b → same x y ≡ same y x
    go true b e f = let z : x ≡ y = same-eq x y (rw e tt) in rw z
    go false true e f = let z : y ≡ x = same-eq y x (rw f tt) in rw z
    go false false e f = e ∙ sym f

fold-some : (b : ℕ) (t : List ℕ) → fold_bytes (b ∷ t) ≡ [] → ⊥
unfolding fold_bytes pick
fold-some b [] e = cc
fold-some b (c ∷ t) e = go (eqb (fold_of b c) 0) e
  where
    go : (t' : Bool) → pick t' (b ∷ fold_bytes (c ∷ t)) (fold_of b c / 256 ∷ 0xcc ∷ fold_of b c % 256 ∷ fold_bytes t) ≡ [] → ⊥
    go true e = cc
    go false e = cc

fold-blank : (x : List ℕ) → fold_bytes x ≡ 95 ∷ [] → x ≡ 95 ∷ []
unfolding fold_bytes pick
fold-blank [] e = e
fold-blank (b ∷ []) e = e
fold-blank (b ∷ c ∷ t) e = go (eqb (fold_of b c) 0) e
  where
    go : (t' : Bool) → pick t' (b ∷ fold_bytes (c ∷ t)) (fold_of b c / 256 ∷ 0xcc ∷ fold_of b c % 256 ∷ fold_bytes t) ≡ 95 ∷ []
        → b ∷ c ∷ t ≡ 95 ∷ []
    go true e = let z : fold_bytes (c ∷ t) ≡ [] = cc in absurd (fold-some c t z)
    go false e = absurd (cc)

blank-alike : (x y : List ℕ) → same y (95 ∷ []) ≡ true → same (fold_bytes x) (fold_bytes y) ≡ true → same x (95 ∷ []) ≡ true
unfolding fold_bytes
blank-alike x y e f =
    let j : y ≡ 95 ∷ [] = same-eq y (95 ∷ []) (rw e tt) in
    let k : fold_bytes x ≡ fold_bytes y = same-eq _ _ (rw f tt) in
    let z : x ≡ 95 ∷ [] = fold-blank x (k ∙ ap fold_bytes j) in
    rw z (same_refl (95 ∷ []))

never : {X : Type 0} → false ≡ true → X
never e = absurd (cc)

exempt-alike : (i : Item) (v u : Value) → exempted i u ≡ true
    → same (fold_bytes (content (name_of i v))) (fold_bytes (content (name_of i u))) ≡ true → exempted i v ≡ true
unfolding exempted
exempt-alike Name v u e f = never e
exempt-alike StructField v u e f = blank-alike _ _ e f
exempt-alike InterfaceMethod v u e f = never e
exempt-alike RuntimeMethod v u e f = never e
exempt-alike NamedMethod v u e f = never e
exempt-alike RuntimeField v u e f = never e

-- ---- names alike are keys that repeat

alike-fold : (x y : Value) → Formed x → Formed y → alike (content x) (content y) ≡ same (fold_bytes (content y)) (fold_bytes (content x))
alike-fold x y f g = alike-bytes (content x) (content y) f g ∙ same-sym _ _

abbrev key : Item → Value → Identity
key i v = key_of (Alike i) v

module _ (i : Item) (v : Value) (g : Formed (name_of i v)) where
  among_none : {vs : List Value} → All (λ u. Formed (name_of i u)) vs → among_identities (key i v) (map (key i) vs) ≡ false
      → All (λ u. alike (content (name_of i u)) (content (name_of i v)) ≡ false) vs
  unfolding among_identities same pick
  among_none search.none e = search.none
  among_none (search.also {v = u} {vs = us} f r) e = go (same (fold_bytes (content (name_of i v))) (fold_bytes (content (name_of i u)))) refl e (λ k. among_none r k)
    where
      go : (b : Bool) → same (fold_bytes (content (name_of i v))) (fold_bytes (content (name_of i u))) ≡ b
          → pick b true (among_identities (key i v) (map (key i) us)) ≡ false
          → (among_identities (key i v) (map (key i) us) ≡ false → All (λ u. alike (content (name_of i u)) (content (name_of i v)) ≡ false) us)
          → All (λ u. alike (content (name_of i u)) (content (name_of i v)) ≡ false) (u ∷ us)
      go true j k n = never (sym k)
      go false j k n = search.also (alike-fold (name_of i u) (name_of i v) f g ∙ j) (n k)

  near_none : {vs : List Value} → All (λ u. Formed (name_of i u)) vs → among_identities (key i v) (map (key i) vs) ≡ false
      → nearest (name_of i v) (table_of i vs) ≡ none
  near_none a e = nearest-none (name_of i v) (table-all i {P = λ x. alike (content x) (content (name_of i v)) ≡ false} (among_none a e))

  or-none : (q r : Names) → or_else q r ≡ none → (q ≡ none) × (r ≡ none)
  or-none none r e = (refl, e)
  or-none (pair x y) r e = absurd (cc)

  near-some : {vs : List Value} → All (λ u. Formed (name_of i u)) vs → exempted i v ≡ false
      → among_identities (key i v) (map (key i) vs) ≡ true → nearest (name_of i v) (table_of i vs) ≡ none → ⊥
  unfolding among_identities same pick nearest
  near-some search.none d e n = never e
  near-some (search.also {v = u} {vs = us} f r) d e n =
      go (same (fold_bytes (content (name_of i v))) (fold_bytes (content (name_of i u)))) (exempted i u) refl refl e (λ l. near-some r d l)
    where
      go : (b c : Bool) → same (fold_bytes (content (name_of i v))) (fold_bytes (content (name_of i u))) ≡ b → exempted i u ≡ c
          → pick b true (among_identities (key i v) (map (key i) us)) ≡ true
          → (among_identities (key i v) (map (key i) us) ≡ true → nearest (name_of i v) (table_of i us) ≡ none → ⊥) → ⊥
      go true true j k l x = never (sym d ∙ exempt-alike i v u k j)
      go true false j k l x =
          let m = or-none (nearest (name_of i v) (table_of i us)) (pick (alike (content (name_of i u)) (content (name_of i v))) (pair (name_of i u) (name_of i v)) none) (rw (table-in i u us k) at n) in
          let a : alike (content (name_of i u)) (content (name_of i v)) ≡ true = alike-fold (name_of i u) (name_of i v) f g ∙ j in
          let o : pair (name_of i u) (name_of i v) ≡ none = rw a at m.1 in
          cc
      go false true j k l x = x l (rw (table-out i u us k) at n)
      go false false j k l x = x l (or-none (nearest (name_of i v) (table_of i us)) (pick (alike (content (name_of i u)) (content (name_of i v))) (pair (name_of i u) (name_of i v)) none) (rw (table-in i u us k) at n)).0

-- ---- whether item k repeats one before it

module _ (i : Item) (s : List ℕ) (from k p : ℕ) (e : p ≡ last_at (format_of i) k s from) where
  repeats-here : repeat_at (keys_at (Alike i) s from) k
      ≡ pick (exempted i (value_at (format_of i) s p)) false (among_identities (key i (value_at (format_of i) s p)) (map (key i) (items_at (format_of i) k s from)))
  unfolding repeats exempted
  repeats-here = repeats-at (Alike i) s from k ∙ rw e

  repeats-among : repeat_at (keys_at (Alike i) s from) k ≡ true
      → (exempted i (value_at (format_of i) s p) ≡ false) × (among_identities (key i (value_at (format_of i) s p)) (map (key i) (items_at (format_of i) k s from)) ≡ true)
  unfolding pick
  repeats-among h = go (exempted i (value_at (format_of i) s p)) refl
    where
      go : (b : Bool) → exempted i (value_at (format_of i) s p) ≡ b
          → (exempted i (value_at (format_of i) s p) ≡ false) × (among_identities (key i (value_at (format_of i) s p)) (map (key i) (items_at (format_of i) k s from)) ≡ true)
      go true x = never (rw x at (sym repeats-here ∙ h))
      go false x = (x, rw x at (sym repeats-here ∙ h))

  repeats-not : repeat_at (keys_at (Alike i) s from) k ≡ false → exempted i (value_at (format_of i) s p) ≡ false
      → among_identities (key i (value_at (format_of i) s p)) (map (key i) (items_at (format_of i) k s from)) ≡ false
  unfolding pick
  repeats-not h x = rw x at (sym repeats-here ∙ h)

-- ---- the items before the first repeat

pair-later : (y : Value) (before ys : List Value) → nearest y before ≡ none
    → pair_after before (y ∷ ys) ≡ pair_after (before ++ (y ∷ [])) ys
unfolding pair_after
pair-later y before ys e = rw e

pair-here : (x y : Value) (before ys : List Value) → nearest y before ≡ pair x y → pair_after before (y ∷ ys) ≡ pair x y
unfolding pair_after
pair-here x y before ys e = rw e

-- the pair's search has come to item k, which stands at p
abbrev CameTo : Item → List ℕ → ℕ → ℕ → ℕ → ℕ → Type 0
CameTo i s from n k p = pair_after [] (table_of i (items_at (format_of i) n s from)) ≡ pair_after (table_of i (items_at (format_of i) k s from)) (table_of i (items_at (format_of i) (n - k) s p))

module _ (i : Item) (s : List ℕ) (from n : ℕ) where
  came-start : CameTo i s from n 0 from
  came-start =
      let e : n - 0 ≡ n = omega arith in
      let z = items-nil (format_of i) s from in
      rw (e, z.0, table-nil i)

  came-next : (k p : ℕ) → k < n → Walking (format_of i) s from n p k → repeat_at (keys_at (Alike i) s from) k ≡ false
      → CameTo i s from n k p → CameTo i s from n (k + 1) (next_at (format_of i) s p)
  came-next k p h w r c =
      let f = format_of i in
      let v = value_at f s p in
      let a : items_at f (n - k) s p ≡ v ∷ items_at f (n - k - 1) s (next_at f s p) = items_more f (n - k) s p (omega arith) in
      let m : n - k - 1 ≡ n - (k + 1) = omega arith in
      let b : items_at f (k + 1) s from ≡ items_at f k s from ++ (v ∷ []) = ap (λ j. items_at f j s from) (add-one k) ∙ items-snoc f k s from ∙ rw (← w.here) in
      c ∙ rw (a, m, b) (go (exempted i v) refl)
    where
      go : (t : Bool) → exempted i (value_at (format_of i) s p) ≡ t
          → pair_after (table_of i (items_at (format_of i) k s from)) (table_of i (value_at (format_of i) s p ∷ items_at (format_of i) (n - (k + 1)) s (next_at (format_of i) s p)))
          ≡ pair_after (table_of i (items_at (format_of i) k s from ++ (value_at (format_of i) s p ∷ []))) (table_of i (items_at (format_of i) (n - (k + 1)) s (next_at (format_of i) s p)))
      go true x = rw (table-out i _ (items_at (format_of i) (n - (k + 1)) s (next_at (format_of i) s p)) x, snoc-out i _ (items_at (format_of i) k s from) x)
      go false x =
          let y = near_none i (value_at (format_of i) s p) (name-formed i (walking_here h w).stands) (items-formed i k s from w.before.all) (repeats-not i s from k p w.here r x) in
          rw (table-in i _ (items_at (format_of i) (n - (k + 1)) s (next_at (format_of i) s p)) x, snoc-in i _ (items_at (format_of i) k s from) x) (pair-later _ _ _ y)

  came-to : (k : ℕ) → k ≤ n → Items (format_of i) n s from → ((j : ℕ) → j < k → repeat_at (keys_at (Alike i) s from) j ≡ false)
      → Walking (format_of i) s from n (last_at (format_of i) k s from) k × CameTo i s from n k (last_at (format_of i) k s from)
  unfolding last_at
  came-to zero h a r = (walking_start a, came-start)
  came-to (suc k) h a r =
      let x = came-to k (omega arith) a (λ j l. r j (omega arith)) in
      let p = last_at (format_of i) k s from in
      let e : last_at (format_of i) (suc k) s from ≡ next_at (format_of i) s p = last_snoc (format_of i) k s from in
      let w : Walking (format_of i) s from n (next_at (format_of i) s p) (k + 1) = walking-next (omega arith) x.0 (record { is = refl }) in
      let c = came-next k p (omega arith) x.0 (r k (omega arith)) x.1 in
      let m : k + 1 ≡ suc k = add-one k in
      (rw (e, ← m) w, rw (e, ← m) c)

-- ---- the answers of `table`

module _ {i : Item} {n : ℕ} {s : List ℕ} {from : ℕ} where
  walk_none : {q : ℕ} → pair_after [] (table_of i (items_at (format_of i) n s from)) ≡ none → q ≡ last_at (format_of i) n s from
      → TableWalk i n s from (Continue q)
  unfolding pair_in
  walk_none e h = record { walks = past (rw e) h }

  -- no repeat
  pub table_none : {q k : ℕ} → Items (format_of i) n s from → FirstRepeat (keys_at (Alike i) s from) n k → n ≤ k
      → PastItems (format_of i) n s from q
      → TableWalk i n s from (Continue q)
  unfolding pair_after
  table_none {q} {k} a f h w =
      let c = (came-to i s from n n (omega arith) a (λ j l. f.new j (omega (arith, f.within)))).1 in
      walk_none (c ∙ rw (items-none (format_of i) (n - n) s (last_at (format_of i) n s from) (omega arith), table-nil i)) w.is

  -- item k is the first that repeats one before it, and stands at p; the one at b is its partner
  pub table-found : {k p b x y : ℕ} → Items (format_of i) n s from → FirstRepeat (keys_at (Alike i) s from) n k → k < n
      → PastItems (format_of i) k s from p → PartnerIs i s from k p b → WordIs s b x → WordIs s p y
      → TableWalk i n s from (Break (record { earlier = record { start = b + 4; length = x }; later = record { start = p + 4; length = y } }))
  unfolding pair_in
  table-found {k} {p} {b} {x} {y} a f h w r u v =
      let g = format_of i in
      let z = came-to i s from n k (omega arith) a (λ j l. f.new j l) in
      let c : CameTo i s from n k p = rw w.is z.1 in
      let l : Walking g s from n p k = rw w.is z.0 in
      let m : items_at g (n - k) s p ≡ value_at g s p ∷ items_at g (n - k - 1) s (next_at g s p) = items_more g (n - k) s p (omega arith) in
      let t = repeats-among i s from k p w.is (f.found h) in
      let e = c ∙ ap (pair_after (table_of i (items_at g k s from))) (ap (table_of i) m ∙ table-in i (value_at g s p) (items_at g (n - k - 1) s (next_at g s p)) t.0) ∙ pair-here (name_at i s b) (name_at i s p) _ _ r.nearest in
      let late = walking_here h l in
      record { walks = found (rw e (spans r.placed late u v)) }
    where
      spans : Placed (format_of i) s b → Placed (format_of i) s p → {x y : ℕ} → WordIs s b x → WordIs s p y
          → shown (pair (name_at i s b) (name_at i s p)) ≡ alike.Pair (b + 4) x (p + 4) y
      spans f g u v =
          rw ((name-stands i f.stands).value, (name-stands i g.stands).value, text-length (item-name i f) u, text-length (item-name i g) v)

-- ---- names that folding keeps apart

among-more : (z y : List ℕ) (seen : List (List ℕ)) → among z (y ∷ seen) ≡ false → (same z y ≡ false) × (among z seen ≡ false)
unfolding among pick
among-more z y seen e = go (same z y) refl e
  where
    go : (b : Bool) → same z y ≡ b → pick b true (among z seen) ≡ false → (same z y ≡ false) × (among z seen ≡ false)
    go true j k = never (sym k)
    go false j k = (j, k)

-- bytes of this kind are the same where they fold to the same
abbrev Apart : (List ℕ → Type 0) → Type 0
Apart K = (x y : List ℕ) → K x → K y → fold_bytes x ≡ fold_bytes y → x ≡ y

-- those with no letter to decompose, which fold to themselves; `fold-injective` says it of those without a mark
pub plain-apart : Apart (Without 0xc3 0xc5)
plain-apart x y h k e = sym (fold-plain x h) ∙ e ∙ fold-plain y k

module _ {K : List ℕ → Type 0} (apart : Apart K) where
  record Kept (v : Value) : Type 0 where
    kind : K (content v)
    formed : Formed v

  kept-alike : {x y : Value} → Kept x → Kept y → alike (content x) (content y) ≡ same (content y) (content x)
  kept-alike {x} {y} f g =
      alike-fold x y f.formed g.formed
      ∙ same-agree _ _ (content y) (content x) (apart _ _ g.kind f.kind) (ap fold_bytes)

  other-than : (y : Value) {xs : List Value} → Kept y → All Kept xs → All (λ x. same (content y) (content x) ≡ false) xs
      → All (λ x. alike (content x) (content y) ≡ false) xs
  other-than y g search.none search.none = search.none
  other-than y g (search.also f r) (search.also e d) = search.also (kept-alike f g ∙ e) (other-than y g r d)

  new_none : (before : List Value) (seen : List (List ℕ)) {ys : List Value} → All Kept before → All Kept ys
      → ((z : List ℕ) → among z seen ≡ false → All (λ x. same z (content x) ≡ false) before) → AllNew seen ys
      → pair_after before ys ≡ none
  unfolding pair_after
  new_none before seen b search.none c done = refl
  new_none before seen b (search.also {v = y} {vs = ys} g r) c (also e n) =
      pair-later y before ys (nearest-none y (other-than y g b (c (content y) e)))
      ∙ new_none (before ++ (y ∷ [])) (content y ∷ seen) (all_snoc b g) r
      (λ z h. let m = among-more z (content y) seen h in all_snoc (c z m.1) m.0) n

  both-kept : (i : Item) {vs : List Value} → All (λ v. K (content (name_of i v))) vs → All (λ v. Formed (name_of i v)) vs
      → All (λ v. Kept (name_of i v)) vs
  both-kept i search.none search.none = search.none
  both-kept i (search.also f r) (search.also g d) = search.also (record { kind = f; formed = g }) (both-kept i r d)

pub table-apart : {i : Item} {n low high : ℕ} {s : List ℕ} {from end : ℕ} {q : Option ℕ} → Apart (Without low high)
    → TableAt i n s from → ItemsWithout i n low high s from q → q ≡ Some end
    → TableWalk i n s from (Continue end)
table-apart {i} {n} {s = s} {from = from} {end = end} a t w e =
    let x = w.all end e in
    let k = both-kept a i x.0 (items-formed i n s from t.items.all) in
    walk_none (new_none a [] [] search.none (table-all i {P = Kept a} k) (λ z h. search.none) t.new) x.1

-- the loop of `items_without`
pub record Passing (i : Item) (low high : ℕ) (s : List ℕ) (from n p k : ℕ) : Type 0 where
  pub walk : Walking (format_of i) s from n p k
  pub all : All (λ v. Without low high (content (name_of i v))) (items_at (format_of i) k s from)

module _ {i : Item} {low high : ℕ} {s : List ℕ} {from n : ℕ} where
  pub passing-start : Items (format_of i) n s from → Passing i low high s from n from 0
  passing-start h = let z = items-nil (format_of i) s from in record { walk = walking_start h; all = rw z.0 search.none }

  module _ {p k : ℕ} (l : Passing i low high s from n p k) where
    pub passing-here : k < n → Placed (format_of i) s p
    passing-here h = walking_here h l.walk

    pub passing-text : k < n → TextAt s p
    passing-text h = item-name i (passing-here h)

    pub passing-more : {m z : ℕ} {b : Bool} → k < n → WordIs s p m → folding.WithoutIs s (p + 4) m low high b → b ≡ true
        → Past (format_of i) s p z → Passing i low high s from n z (k + 1)
    passing-more {m} h e u v w =
        let f = format_of i in
        let x = (name-stands i (passing-here h).stands).value in
        let y : Without low high (content (name_of i (value_at f s p))) = rw (x, text-part (passing-text h) e) (u.is v) in
        let b : items_at f (k + 1) s from ≡ items_at f k s from ++ (value_at f s p ∷ []) = ap (λ j. items_at f j s from) (add-one k) ∙ items-snoc f k s from ∙ rw (← l.walk.here) in
        record { walk = walking-next h l.walk w; all = rw b (all_snoc l.all y) }

-- ---- the loop of `partner`

-- the nearest of some names that is alike to the one at p: none, or the one at `best`
pub data Best (i : Item) (s : List ℕ) (p best : ℕ) (names : List Value) : Type 0 where
  none_yet : nearest (name_at i s p) names ≡ none → Best i s p best names
  some : Placed (format_of i) s best → nearest (name_at i s p) names ≡ pair (name_at i s best) (name_at i s p) → Best i s p best names

pub record Partnering (i : Item) (s : List ℕ) (from k p best at j : ℕ) : Type 0 where
  pub walk : Walking (format_of i) s from k at j
  pub repeats : Repeats i s from k p
  pub near : Best i s p best (table_of i (items_at (format_of i) j s from))

module _ {i : Item} {s : List ℕ} {from k p : ℕ} where
  pub partner-start : {best : ℕ} → Repeats i s from k p → Partnering i s from k p best from 0
  unfolding nearest
  partner-start r =
      let z = items-nil (format_of i) s from in
      record { walk = walking_start r.standing.after.before; repeats = r; near = none_yet (rw (z.0, table-nil i)) }

  module _ {best at j : ℕ} (l : Partnering i s from k p best at j) where
    pub partner-here : j < k → Placed (format_of i) s at
    partner-here h = walking_here h l.walk

    pub partner-both : j < k → TwoPlaced (format_of i) s p at
    partner-both h = record { fore = l.repeats.standing.after.here; back = partner-here h }

    pub partner-more : {q z : ℕ} → j < k → NearerIs i s p at best q → Past (format_of i) s at z
        → Partnering i s from k p q z (j + 1)
    unfolding pick
    partner-more {q} h w v =
        let f = format_of i in
        let b : items_at f (j + 1) s from ≡ items_at f j s from ++ (value_at f s at ∷ []) = ap (λ m. items_at f m s from) (add-one j) ∙ items-snoc f j s from ∙ rw (← l.walk.here) in
        record { walk = walking-next h l.walk v; repeats = l.repeats; near = rw b (go (exempted i (value_at f s at)) (same (fold_bytes (text_at s p)) (fold_bytes (text_at s at))) refl refl l.near) }
      where
        texts : same (fold_bytes (content (name_at i s p))) (fold_bytes (content (name_at i s at))) ≡ same (fold_bytes (text_at s p)) (fold_bytes (text_at s at))
        texts = rw ((name-stands i l.repeats.standing.after.here.stands).value, (name-stands i (partner-here h).stands).value)

        alike_is : alike (content (name_at i s at)) (content (name_at i s p)) ≡ same (fold_bytes (text_at s p)) (fold_bytes (text_at s at))
        alike_is = alike-fold (name_at i s at) (name_at i s p) (name-formed i (partner-here h).stands) (name-formed i l.repeats.standing.after.here.stands) ∙ texts

        own : exempted i (value_at (format_of i) s p) ≡ false
        own = (repeats-among i s from k p l.repeats.standing.place l.repeats.repeat).0

        keep : (names : List Value) → q ≡ best → Best i s p best names → Best i s p q names
        keep names e (none_yet n) = none_yet n
        keep names e (some a n) = rw e (some a n)

        go : (c b : Bool) → exempted i (value_at (format_of i) s at) ≡ c → same (fold_bytes (text_at s p)) (fold_bytes (text_at s at)) ≡ b
            → Best i s p best (table_of i (items_at (format_of i) j s from))
            → Best i s p q (table_of i (items_at (format_of i) j s from ++ (value_at (format_of i) s at ∷ [])))
        go true true x e o = never (sym own ∙ exempt-alike i (value_at (format_of i) s p) (value_at (format_of i) s at) x (texts ∙ e))
        go true false x e o = rw (snoc-out i (value_at (format_of i) s at) (items_at (format_of i) j s from) x) (keep _ (w.is ∙ rw e) o)
        go false true x e o =
            let d : q ≡ at = w.is ∙ rw e in
            rw (snoc-in i (value_at (format_of i) s at) (items_at (format_of i) j s from) x)
            (some (rw d (partner-here h)) (nearest-snoc (name_at i s p) (table_of i (items_at (format_of i) j s from)) (name_at i s at) ∙ rw (alike_is, e, d)))
        go false false x e o =
            let d : q ≡ best = w.is ∙ rw e in
            rw (snoc-in i (value_at (format_of i) s at) (items_at (format_of i) j s from) x) (last d o)
          where
            last : q ≡ best → Best i s p best (table_of i (items_at (format_of i) j s from))
                → Best i s p q (table_of i (items_at (format_of i) j s from) ++ (name_at i s at ∷ []))
            last d (none_yet n) = none_yet (nearest-snoc (name_at i s p) (table_of i (items_at (format_of i) j s from)) (name_at i s at) ∙ rw (alike_is, e) n)
            last d (some a n) = rw d (some a (nearest-snoc (name_at i s p) (table_of i (items_at (format_of i) j s from)) (name_at i s at) ∙ rw (alike_is, e) n))

    pub partner-done : k ≤ j → j ≤ k → PartnerIs i s from k p best
    partner-done h g = let e : j ≡ k = omega arith in go (rw e at l.near)
      where
        go : Best i s p best (table_of i (items_at (format_of i) k s from)) → PartnerIs i s from k p best
        go (some a n) = record { placed = a; nearest = n }
        go (none_yet n) =
            let t = l.repeats.standing in
            let r = repeats-among i s from k p t.place l.repeats.repeat in
            absurd (near-some i (value_at (format_of i) s p) (name-formed i t.after.here.stands) (items-formed i k s from t.after.before.all) r.0 r.1 n)

-- the answers of `nearer`
module _ {i : Item} {s : List ℕ} {p a : ℕ} {b : Bool} (w : SameKey (Alike i) s p a b) where
  key-same : same (fold_bytes (text_at s p)) (fold_bytes (text_at s a)) ≡ b
  unfolding pick same
  key-same = go (same (fold_bytes (text_at s p)) (fold_bytes (text_at s a))) w.is
    where
      go : (c : Bool) → b ≡ pick c true false → c ≡ b
      go true e = sym e
      go false e = sym e

  pub nearer-here : {best : ℕ} → b ≡ true → NearerIs i s p a best a
  unfolding pick
  nearer-here e = record { is = rw (key-same, e) }

  pub nearer-before : {best : ℕ} → b ≡ false → NearerIs i s p a best best
  unfolding pick
  nearer-before e = record { is = rw (key-same, e) }

-- what `partner` asks: item k, the first that repeats one before it
pub repeats-found : {i : Item} {n : ℕ} {s : List ℕ} {from k p : ℕ} → Items (format_of i) n s from
    → FirstRepeat (keys_at (Alike i) s from) n k → k < n → PastItems (format_of i) k s from p → Repeats i s from k p
repeats-found {i} {n} {s} {from} {k} {p} a f h w =
    let z = came-to i s from n k (omega arith) a (λ j l. f.new j l) in
    let l : Walking (format_of i) s from n p k = rw w.is z.0 in
    record { standing = record { after = walking-at h l; place = l.here }; repeat = f.found h }
