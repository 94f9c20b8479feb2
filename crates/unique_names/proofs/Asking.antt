-- The laws of the questions on the items of a table: one item's answers, and the loop over them.
use Rattle.std.proofs.Common.{Ok, Err, ℕ, ◌+◌, ◌≤◌, ◌<◌, ◌≡◌, refl, ap, sym, ◌∙◌, List, [], ◌∷◌, Bool, true, false, arith, length}
use Rattle.format.specs.Trace.{Wrong, refused, pick}
use Rattle.format.specs.Format.{Value, start, content, pay}
use Rattle.format.specs.Reading.{same}
use Rattle.vob24.specs.Refusals as refusals
use Rattle.vob24.specs.Questions.{refuse_if, repeat}
use Rattle.vob24.specs.Grammar.{struct_field, identity}
use Rattle.reader.specs.Numbers.{kind_number}
use Rattle.reader.specs.Contract.{refusal, told, Paid, Asks, Step}
use Rattle.reader.specs.declared.kinds.Kind.{Kind}
use Rattle.reader.specs.declared.kinds.Kind.TheVariants.{DuplicateStructField, DuplicateInterfaceMethod, DuplicateRuntimeStructField}
use Rattle.reader.specs.declared.Cursor.{Cursor}
use Rattle.reader.specs.declared.Refusal.{Refusal}
use Rattle.reader.proofs.Asks.{asks-then, asks-not, asks_none, asks-deny, asks-poor, asks-paid}
use Rattle.in_place.specs.declared.Item.{Item}
use Rattle.in_place.specs.declared.Item.TheVariants.{StructField, RuntimeField}
use Rattle.in_place.specs.declared.Table.{Table}
use Rattle.in_place.specs.declared.Table.TheVariants.{Fields, Methods, Identities, Alike}
use Rattle.in_place.specs.Walk.{value_at, items_at}
use Rattle.in_place.specs.Items.{format_of, name_of, text_at}
use Rattle.in_place.specs.Tables.{format_in}
use Rattle.in_place.specs.Contract.{over, WordIs, BlankIs, Placed, Past, PackageIs, Items}
use Rattle.in_place.proofs.Texts.{text-length}
use Rattle.in_place.proofs.Places.{name-stands, item-name, runtime-stands}
use Rattle.in_place.proofs.Keys.{name-content}
use Rattle.in_place.proofs.Asking.{Asking, asking-start, asking-here, asking-not, asking-more, asking-done}
use Rattle.repeat_search.specs.Keys.{repeat_at, FirstRepeat}
use Rattle.repeat_search.specs.Tables.{repeats, keys_at}
use Rattle.repeat_search.proofs.Tables.{walking-stands, repeat-is}
use Rattle.unique_names.specs.Asking.{wrong_in, table_asks}
use Rattle.unique_names.specs.Contract.{Charged, Repeated, RepeatTold}

module _ (w : Wrong) {b : Bool} {c : Cursor} where
  pub refuse-yes : {x : Refusal} {q : Step} → b ≡ true → q ≡ Err x → told x ≡ refused w c.place c.left
      → Asks (refuse_if b w) c q
  unfolding pick
  refuse-yes e i k = rw (e, i) (asks-deny k)

  pub refuse-no : b ≡ false → Asks (refuse_if b w) c (Ok c)
  unfolding pick
  refuse-no e = rw e asks_none

-- the answers of `refuse_repeat`
module _ (i : Item) {s : List ℕ} {p : ℕ} (h : Placed (format_of i) s p) where
  pub repeat-told : (kind : Kind) (k : ℕ) (c : Cursor)
      → told (refusal kind k (p + 4) (length (text_at s p)) c) ≡ refused (repeat (kind_number kind) k (name_of i (value_at (format_of i) s p))) c.place c.left
  repeat-told kind k c = rw (name-stands i h.stands).value

module _ {t : Table} {s : List ℕ} {p : ℕ} (h : Placed (format_in t) s p) {c : Cursor} {q : Step} where
  pub told-field : t ≡ Fields → Repeated s p c DuplicateStructField 0 q → RepeatTold t s p c q
  told-field e r = rw e (record { refusal = _; is = r.is; tells = repeat-told StructField (rw e at h) DuplicateStructField 0 c })

  pub told-method : {i : Item} → t ≡ Methods i → Repeated s p c DuplicateInterfaceMethod 0 q → RepeatTold t s p c q
  told-method {i} e r = rw e (record { refusal = _; is = r.is; tells = repeat-told i (rw e at h) DuplicateInterfaceMethod 0 c })

  pub told-alike : {i : Item} → t ≡ Alike i → Repeated s p c DuplicateInterfaceMethod 0 q → RepeatTold t s p c q
  told-alike {i} e r = rw e (record { refusal = _; is = r.is; tells = repeat-told i (rw e at h) DuplicateInterfaceMethod 0 c })

  pub told-identity : {x : ℕ} → t ≡ Identities → PackageIs s p x
      → Repeated s p c DuplicateRuntimeStructField (x + 4) q → RepeatTold t s p c q
  told-identity {x} e g r = rw e (record { refusal = _; is = r.is; tells = go (rw e at h) })
    where
      go : Placed (format_in Identities) s p
          → told (refusal DuplicateRuntimeStructField (x + 4) (p + 4) (length (text_at s p)) c) ≡ refused (wrong_in Identities (value_at (format_in Identities) s p)) c.place c.left
      go h =
          let y : start (identity (value_at (format_in Identities) s p)).0 ≡ x + 4 = ap start (runtime-stands h.stands).value ∙ rw g.is in
          rw y (repeat-told RuntimeField h DuplicateRuntimeStructField (x + 4) c)

-- the refusal of an item, as the code has it
pub told-in : (t : Table) (v : Value) (c : Cursor) → (x : Refusal) × (told x ≡ refused (wrong_in t v) c.place c.left)
told-in Fields v c = (refusal DuplicateStructField 0 (start (name_of StructField v)) (length (content (name_of StructField v))) c, refl)
told-in (Methods i) v c = (refusal DuplicateInterfaceMethod 0 (start (name_of i v)) (length (content (name_of i v))) c, refl)
told-in Identities v c = (refusal DuplicateRuntimeStructField (start (identity v).0) (start (identity v).1) (length (content (identity v).1)) c, refl)
told-in (Alike i) v c = (refusal DuplicateInterfaceMethod 0 (start (name_of i v)) (length (content (name_of i v))) c, refl)

-- the answers of `charge_field` and `charge_key`
paid-asks : {k n : ℕ} {c : Cursor} {y : Step} → Paid k n c y → Asks (pay k n ∷ []) c y
paid-asks {k} {n} {c} {y} h = go y refl
  where
    go : (z : Step) → y ≡ z → Asks (pay k n ∷ []) c y
    go (Ok d) e = rw e (asks-paid h e asks_none)
    go (Err x) e = asks-poor h e

module _ {s : List ℕ} {p : ℕ} (h : Placed struct_field s p) {b : Bool} (w : BlankIs s p b) where
  blank-is : same (content (name_of StructField (value_at struct_field s p))) (95 ∷ []) ≡ b
  blank-is = ap (λ x. same x (95 ∷ [])) (name-content StructField h.stands) ∙ sym w.is

  pub charge-none : {c : Cursor} → b ≡ true → Charged Fields s p c (Ok c)
  unfolding pick
  charge-none e = record { asks = rw (blank-is, e) asks_none }

  pub charge-one : {c : Cursor} {n : ℕ} {y : Step} → b ≡ false → WordIs s p n → Paid refusals.struct_field_key n c y
      → Charged Fields s p c y
  unfolding pick
  charge-one e k g = record { asks = rw (blank-is, e, name-content StructField h.stands, text-length (item-name StructField h) k) (paid-asks g) }

module _ {t : Table} {s : List ℕ} {p : ℕ} {c : Cursor} where
  pub charge-method : {i : Item} → t ≡ Methods i → Charged t s p c (Ok c)
  charge-method e = rw e (record { asks = asks_none })

  pub charge-identity : t ≡ Identities → Charged t s p c (Ok c)
  charge-identity e = rw e (record { asks = asks_none })

  pub charge-alike : {i : Item} → t ≡ Alike i → Charged t s p c (Ok c)
  charge-alike e = rw e (record { asks = asks_none })

-- ---- the loop of `distinct`, up to the first repeat
pub record Judging (t : Table) (s : List ℕ) (from n first : ℕ) (c₀ : Cursor) (p i : ℕ) (c : Cursor) : Type 0 where
  pub asked : Asking (format_in t) (table_asks t) s from n c₀ p i c
  pub below : i ≤ first

module _ {t : Table} {s : List ℕ} {from n first : ℕ} {c₀ : Cursor} where
  pub judging-start : Items (format_in t) n s from → Judging t s from n first c₀ from 0 c₀
  judging-start h = record { asked = asking-start h; below = omega arith }

  module _ {p i : ℕ} {c : Cursor} (l : Judging t s from n first c₀ p i c) where
    pub judging-done : n ≤ i → Asks (over (table_asks t) [] (items_at (format_in t) n s from)) c₀ (Ok c)
    judging-done h = asking-done h l.asked

    module _ (h : i < n) where
      pub judging-here : Placed (format_in t) s p
      judging-here = asking-here h l.asked

      -- a turn: the charge, and then whether the item is the first repeat
      module _ {y : Step} (a : Charged t s p c y) where
        pub judging-poor : {x : Refusal} → y ≡ Err x
            → Asks (over (table_asks t) [] (items_at (format_in t) n s from)) c₀ y
        unfolding table_asks
        judging-poor {x} e = rw e (asking-not h l.asked (asks-not _ (rw e at a.asks)) refl)

        module _ (f : FirstRepeat (keys_at t s from) n first) {d : Cursor} (e : y ≡ Ok d) where
          repeats-is : {b : Bool} → repeat_at (keys_at t s from) i ≡ b
              → repeats t (items_at (format_in t) i s from) (value_at (format_in t) s p) ≡ b
          repeats-is r = sym (repeat-is (walking-stands h l.asked.walk)) ∙ r

          pub judging-repeat : {q : Step} → i ≡ first → RepeatTold t s p d q
              → Asks (over (table_asks t) [] (items_at (format_in t) n s from)) c₀ q
          unfolding table_asks
          judging-repeat k r =
              let z : repeat_at (keys_at t s from) i ≡ true = rw k (f.found (omega arith)) in
              rw r.is (asking-not h l.asked (asks-then _ (rw e at a.asks) (refuse-yes _ (repeats-is z) refl r.tells)) refl)

          pub judging-more : {z : ℕ} → (i ≡ first → ⊥) → Past (format_in t) s p z
              → Judging t s from n first c₀ z (i + 1) d
          unfolding table_asks
          judging-more {z} k w =
              let j : i < first = omega (arith, l.below) in
              record { asked = asking-more h l.asked (asks-then _ (rw e at a.asks) (refuse-no _ (repeats-is (f.new i j)))) refl w; below = omega arith }
