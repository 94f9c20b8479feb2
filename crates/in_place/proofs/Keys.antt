-- The laws of keys, and of the loop that compares an item with those of a list.
use Rattle.std.proofs.Common.{ℕ, ◌+◌, ◌-◌, ◌≤◌, ◌<◌, arith, ◌≡◌, refl, ap, sym, ◌∙◌, List, [], ◌∷◌, map, Bool, true, false}
use Rattle.format.specs.Trace.{pick}
use Rattle.format.specs.Format.{content, Format}
use Rattle.format.specs.Reading.{same}
use Rattle.vob24.specs.Questions.{Identity, among_identities}
use Rattle.folding.specs.Bytes.{fold_bytes}
use Rattle.in_place.specs.declared.Item.{Item}
use Rattle.in_place.specs.declared.Item.TheVariants.{StructField, RuntimeField}
use Rattle.in_place.specs.declared.Table.{Table}
use Rattle.in_place.specs.declared.Table.TheVariants.{Fields, Methods, Identities, Alike}
use Rattle.in_place.specs.Walk.{Stands, value_at, next_at, items_at, items-none}
use Rattle.in_place.specs.Items.{format_of, name_of, text_at}
use Rattle.in_place.specs.Tables.{item_of, format_in, package_of, key_name, key_of, key_text, package_text}
use Rattle.in_place.specs.Contract.{TextAt, SameName, Placed, Past, Items, TwoPlaced, SamePackage, SameKey, Seen}
use Rattle.in_place.proofs.Places.{name-stands, item-name, runtime-stands}
use Rattle.in_place.proofs.Walking.{items-here, items-next, items-cons}

-- the bytes of a name
pub name-content : (i : Item) {s : List ℕ} {p : ℕ} → Stands (format_of i) s p
    → content (name_of i (value_at (format_of i) s p)) ≡ text_at s p
name-content i h = ap content (name-stands i h).value

-- a table that is told
pub placed-in : {t u : Table} → t ≡ u → {s : List ℕ} {p : ℕ} → Placed (format_in t) s p → Placed (format_in u) s p
placed-in e h = rw e at h

pub both-texts : (t : Table) {s : List ℕ} {a b : ℕ} → TwoPlaced (format_in t) s a b → TextAt s a × TextAt s b
both-texts t h = (item-name (item_of t) h.fore, item-name (item_of t) h.back)

-- ---- the answers of `same_key`

-- only identities have a package
no-package : (t : Table) → (t ≡ Identities → ⊥) → (s : List ℕ) (p : ℕ) → package_text t s p ≡ []
no-package Fields n s p = refl
no-package (Methods i) n s p = refl
no-package Identities n s p = absurd (n refl)
no-package (Alike i) n s p = refl

module _ {t : Table} {s : List ℕ} {a b : ℕ} {n : Bool} (w : SameName t s a b n) where
  pub other-names : n ≡ false → SameKey t s a b false
  unfolding pick
  other-names e = record { is = rw (← w.is, e) }

  module _ (e : n ≡ true) where
    pub same-only : (t ≡ Identities → ⊥) → SameKey t s a b true
    unfolding pick same
    same-only i = record { is = rw (← w.is, e, no-package t i s a, no-package t i s b) }

    pub same-identity : {q : Bool} → t ≡ Identities → SamePackage Identities s a b q → SameKey t s a b q
    unfolding pick
    same-identity i v = record { is = rw (← w.is, e) (v.is ∙ rw i) }

-- the bytes of an item's key
pub key-name : (t : Table) {s : List ℕ} {p : ℕ} → Stands (format_in t) s p
    → content (key_name t (value_at (format_in t) s p)) ≡ key_text t s p
key-name Fields h = name-content StructField h
key-name (Methods i) h = name-content i h
key-name Identities h = name-content RuntimeField h
key-name (Alike i) h = ap fold_bytes (name-content i h)

pub key-package : (t : Table) {s : List ℕ} {p : ℕ} → Stands (format_in t) s p
    → content (package_of t (value_at (format_in t) s p)) ≡ package_text t s p
key-package Fields h = refl
key-package (Methods i) h = refl
key-package Identities h = ap content (runtime-stands h).value
key-package (Alike i) h = refl

past_next : {f : Format} {s : List ℕ} {p : ℕ} → Past f s p (next_at f s p)
past_next = record { is = refl }

-- ---- the loop of `seen`: i items were looked at
pub record Looking (t : Table) (s : List ℕ) (from n p at i : ℕ) : Type 0 where
  pub items : Items (format_in t) (n - i) s at
  pub here : Placed (format_in t) s p
  pub leads : among_identities (key_of t (value_at (format_in t) s p)) (map (key_of t) (items_at (format_in t) n s from))
      ≡ among_identities (key_of t (value_at (format_in t) s p)) (map (key_of t) (items_at (format_in t) (n - i) s at))

among-step : (x y : Identity) (ys : List Identity) (q : Bool)
    → q ≡ pick (same (content x.1) (content y.1)) (same (content x.0) (content y.0)) false
    → among_identities x (y ∷ ys) ≡ pick q true (among_identities x ys)
unfolding among_identities pick
among-step x y ys q e = rw e (go (same (content x.1) (content y.1)) (same (content x.0) (content y.0)) (among_identities x ys))
  where
    go : (n p r : Bool) → pick n (pick p true r) r ≡ pick (pick n p false) true r
    go true p r = refl
    go false p r = refl

module _ {t : Table} {s : List ℕ} {from n p : ℕ} where
  module _ {at i : ℕ} (h : i < n) (l : Looking t s from n p at i) where
    pub looking-here : Placed (format_in t) s at
    looking-here = items-here {k = n - i} (omega arith) l.items

    pub looking-both : TwoPlaced (format_in t) s p at
    looking-both = record { fore = l.here; back = looking-here }

    looking-step : {q : Bool} {z : ℕ} → SameKey t s p at q → Past (format_in t) s at z
        → among_identities (key_of t (value_at (format_in t) s p)) (map (key_of t) (items_at (format_in t) (n - i) s at))
        ≡ pick q true (among_identities (key_of t (value_at (format_in t) s p)) (map (key_of t) (items_at (format_in t) (n - (i + 1)) s z)))
    looking-step {q} {z} w v =
        let k : n - i - 1 ≡ n - (i + 1) = omega arith in
        let x : items_at (format_in t) (n - i) s at ≡ value_at (format_in t) s at ∷ items_at (format_in t) (n - (i + 1)) s z = items-cons {k = n - i} (omega arith) l.items v ∙ rw k in
        ap (λ vs. among_identities (key_of t (value_at (format_in t) s p)) (map (key_of t) vs)) x
        ∙ among-step _ _ _ q (w.is ∙ sym (rw (key-name t l.here.stands, key-name t looking-here.stands, key-package t l.here.stands, key-package t looking-here.stands)))

    module _ {q : Bool} (w : SameKey t s p at q) where
      pub looking-more : {z : ℕ} → q ≡ false → Past (format_in t) s at z → Looking t s from n p z (i + 1)
      unfolding pick
      looking-more e v =
          let k : n - i - 1 ≡ n - (i + 1) = omega arith in
          record { items = rw k at (items-next {k = n - i} (omega arith) l.items v); here = l.here; leads = l.leads ∙ looking-step w v ∙ rw e }

      pub looking-found : q ≡ true → Seen t s from n p true
      unfolding pick
      looking-found e = record { is = sym (l.leads ∙ looking-step w past_next ∙ rw e) }

  pub looking-done : {at i : ℕ} → n ≤ i → Looking t s from n p at i → Seen t s from n p false
  unfolding among_identities
  looking-done {at} {i} h l = record { is = sym (l.leads ∙ rw (items-none (format_in t) (n - i) s at (omega arith))) }
