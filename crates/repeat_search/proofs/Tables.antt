-- The keys of a table's items: what the values say of them, and what the code tells of the item at a place.
use Rattle.std.proofs.Common.{ℕ, suc, zero, ◌≤◌, ◌<◌, ◌≡◌, refl, ap, sym, ◌∙◌, List, map, Bool, true, false, arith, length}
use Rattle.format.specs.Trace.{pick}
use Rattle.format.specs.Format.{Value, content, Format}
use Rattle.format.specs.Reading.{same}
use Rattle.format.proofs.TraceTheorems.{trace-within}
use Rattle.vob24.specs.Questions.{among_identities}
use Rattle.in_place.specs.declared.Item.{Item}
use Rattle.in_place.specs.declared.Table.{Table}
use Rattle.in_place.specs.Walk.{AllStand, value_at, next_at, items_at, last_at}
use Rattle.in_place.specs.Items.{format_of, name_of}
use Rattle.in_place.specs.Tables.{item_of, format_in, package_of, key_name, key_of, key_text}
use Rattle.in_place.specs.Contract.{TextAt, Items, PastItems, Seen}
use Rattle.in_place.proofs.Places.{item-name}
use Rattle.in_place.proofs.Keys.{name-content, key-name}
use Rattle.in_place.proofs.Walking.{Walking, walking-at}
use Rattle.repeat_search.specs.Keys.{among, repeat_at}
use Rattle.repeat_search.specs.Tables.{exempt, repeats, key_in, key_at, keys_at, ExemptIs, Standing}
use Rattle.repeat_search.proofs.Keys.{repeat-exempt, repeat-asked}

-- ---- by values
keys-among : (t : Table) (s : List ℕ) (v : Value) (n from : ℕ)
    → among (key_in t v) n (keys_at t s from) ≡ among_identities (key_of t v) (map (key_of t) (items_at (format_in t) n s from))
unfolding among among_identities items_at last_at keys_at pick
keys-among t s v zero from = refl
keys-among t s v (suc n) from =
    go (same (content (key_name t v)) (content (key_name t (value_at (format_in t) s from)))) (same (content (package_of t v)) (content (package_of t (value_at (format_in t) s from)))) (keys-among t s v n (next_at (format_in t) s from))
  where
    go : (b c : Bool) {r z : Bool} → r ≡ z → pick (pick b c false) true r ≡ pick b (pick c true z) z
    go true true e = refl
    go true false e = e
    go false c e = e

pub repeats-at : (t : Table) (s : List ℕ) (from i : ℕ)
    → repeat_at (keys_at t s from) i ≡ repeats t (items_at (format_in t) i s from) (value_at (format_in t) s (last_at (format_in t) i s from))
unfolding repeat_at repeats keys_at
repeats-at t s from i = ap (pick (exempt t (content (name_of (item_of t) (value_at (format_in t) s (last_at (format_in t) i s from))))) false) (keys-among t s (value_at (format_in t) s (last_at (format_in t) i s from)) i from)

-- ---- the item at a place

pub walking-stands : {t : Table} {s : List ℕ} {from n p i : ℕ} → i < n → Walking (format_in t) s from n p i
    → Standing t s from i p
walking-stands h l = record { after = walking-at h l; place = l.here }

module _ {t : Table} {s : List ℕ} {from i p : ℕ} (h : Standing t s from i p) where
  pub standing-text : TextAt s p
  standing-text = item-name (item_of t) h.after.here

  pub standing-key : keys_at t s from i ≡ key_at t s p
  unfolding keys_at
  standing-key = rw h.place

  pub standing-name : (keys_at t s from i).name ≡ key_text t s p
  standing-name = rw standing-key (key-name t h.after.here.stands)

  pub repeat-is : repeat_at (keys_at t s from) i ≡ repeats t (items_at (format_in t) i s from) (value_at (format_in t) s p)
  repeat-is = repeats-at t s from i ∙ rw h.place

  module _ {b : Bool} (w : ExemptIs t s p b) where
    exempt-is : (keys_at t s from i).exempt ≡ b
    exempt-is = rw standing-key (ap (exempt t) (name-content (item_of t) h.after.here.stands) ∙ sym w.is)

    pub standing-exempt : b ≡ true → repeat_at (keys_at t s from) i ≡ false
    standing-exempt e = repeat-exempt (keys_at t s from) i (exempt-is ∙ e)

    pub standing-seen : {q : Bool} → b ≡ false → Seen t s from i p q → repeat_at (keys_at t s from) i ≡ q
    standing-seen e v = repeat-asked (keys_at t s from) i (exempt-is ∙ e) ∙ rw standing-key (keys-among t s (value_at (format_in t) s p) i from ∙ sym v.is)

-- ---- fewer items
stand-less : (f : Format) (s : List ℕ) (m n p : ℕ) → m ≤ n → AllStand f n s p → AllStand f m s p
unfolding AllStand
stand-less f s zero n p h a = tt
stand-less f s (suc m) zero p h a = absurd (omega arith)
stand-less f s (suc m) (suc n) p h a = (a.0, stand-less f s m n (next_at f s p) (omega arith) a.1)

pub items-less : {f : Format} {s : List ℕ} {m n p : ℕ} → m ≤ n → Items f n s p → Items f m s p
items-less {f} {s} {m} {n} {p} h i = record { small = i.small; all = stand-less f s m n p h i.all }

-- ---- the place past the items
last-within : (f : Format) (n : ℕ) (s : List ℕ) (p : ℕ) → p ≤ length s → AllStand f n s p → last_at f n s p ≤ length s
unfolding AllStand last_at
last-within f zero s p h a = h
last-within f (suc n) s p h a = last-within f n s (next_at f s p) ((trace-within f s p a.0.ends).1 h) a.1

pub items-within : (i : Item) (n : ℕ) {s : List ℕ} {p q : ℕ} → Items (format_of i) n s p → PastItems (format_of i) n s p q → p < q
    → q ≤ length s
unfolding AllStand last_at
items-within i zero h w l = absurd (omega (arith, w.is))
items-within i (suc n) {s} {p} h w l =
    let name = item-name i (record { small = h.small; stands = h.all.0 }) in
    rw w.is (last-within (format_of i) (suc n) s p (omega (arith, name.room)) h.all)
