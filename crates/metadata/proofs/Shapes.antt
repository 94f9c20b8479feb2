-- The records of metadata, from what their parts answered.
use Rattle.std.specs.Prelude.{ℕ, ◌+◌, ◌≤◌, ◌<◌, ◌≡◌, refl, Bool, true, false, List, T, leb, eqb, Ok}
use Rattle.std.proofs.Common.{arith, get_or, leb→le}
use borrow.Author.Tests.{lt-leb}
use Rattle.format.specs.Format.{number, counted, byte, Format, empty}
use Rattle.format.specs.Trace.{pick}
use Rattle.vob24.specs.Refusals.{invalid_slot_type}
use Rattle.vob24.specs.Settings.{Settings}
use Rattle.vob24.specs.Leaves.{at_most, u16, u32, bool}
use Rattle.vob24.specs.Grammar.{slot_types, assert_kind, metadata, metadata_variants}
use Rattle.fields.specs.Fields.{metadata_tagged}
use Rattle.reader.specs.Contract.{NumberOf, Read}
use Rattle.reader.specs.declared.Cursor.{Cursor}
use Rattle.reader.specs.Recorded.{no_list, RecordOf, recorded}
use Rattle.reader.specs.declared.ListAt.{ListAt}
use Rattle.reader.proofs.Recording.{recorded_then, recorded_place, recorded_last, recorded_two, last_two, last_three, fixed-place, list-place, variant_at, record_on}
use Rattle.metadata.specs.Records.{two_layouts, elem_layout, map_get, slot_layout, iface_assert, call_iface, one_of, two_of, elem_of, map_get_of, slot_of, assert_of, call_iface_of, metadata_records, metadata_of, MetadataRecord}
use Rattle.lists.specs.Records.{bare_of}
use Rattle.metadata.specs.declared.Metadata.{Metadata}
use Rattle.metadata.specs.declared.Metadata.TheVariants as kind

-- the n entries of a list whose count stands at p
abbrev items_of : ℕ → ℕ → ListAt
items_of p n = record { start = p + 4; count = n }

-- slot types take one byte each
slots-place : (set : Settings) {s : List ℕ} {c d : Cursor} {q : Read ℕ} {n : ℕ} {t t₁ : List ℕ} → q ≡ Ok (n, d)
    → NumberOf (slot_types set) counted s c t q t₁ → d.place ≡ c.place + 4 + n
slots-place set e h = omega (arith, list-place byte (at_most 5 invalid_slot_type) e h)

-- one list
pub one_layout : {f : Format} {k : Metadata} {s : List ℕ} {c d : Cursor} {q : Read ℕ} {n : ℕ} {i : ListAt} {t t₁ : List ℕ}
    → q ≡ Ok (n, d) → NumberOf f counted s c t q t₁ → i ≡ items_of c.place n
    → RecordOf f (one_of k) s c t (Ok (record { kind = k; first = i; second = no_list }, d)) t₁
one_layout {k = k} e h x = recorded (recorded_last e h (λ n p. record { kind = k; first = items_of p n; second = no_list }) (rw x))

-- two lists of slot types; then a bool
module _ (set : Settings) {s : List ℕ} {c c₁ c₂ : Cursor} {q₁ q₂ : Read ℕ} {m n : ℕ} {t t₁ t₂ : List ℕ} (e₁ : q₁ ≡ Ok (m, c₁)) (h₁ : NumberOf (slot_types set) counted s c t q₁ t₁) (e₂ : q₂ ≡ Ok (n, c₂)) (h₂ : NumberOf (slot_types set) counted s c₁ t₁ q₂ t₂) {i j : ListAt}
    (x : i ≡ items_of c.place m) (y : j ≡ items_of c₁.place n) where
  pub two_layout : {k : Metadata}
      → RecordOf (two_layouts set) (two_of k) s c t (Ok (record { kind = k; first = i; second = j }, c₂)) t₂
  two_layout {k} =
      let z = slots-place set e₁ h₁ in
      recorded (last_two e₁ h₁ e₂ h₂ (λ m n p. record { kind = k; first = items_of p m; second = items_of (p + 4 + m) n }) (rw (x, y, z)))

  pub map_get_layout : {c₃ : Cursor} {q₃ : Read ℕ} {b : ℕ} {t₃ : List ℕ} → q₃ ≡ Ok (b, c₃)
      → NumberOf bool number s c₂ t₂ q₃ t₃
      → RecordOf (map_get set) map_get_of s c t (Ok (record { kind = kind.MapGet (eqb b 1); first = i; second = j }, c₃)) t₃
  map_get_layout e₃ h₃ =
      let z = slots-place set e₁ h₁ in
      recorded (last_three e₁ h₁ e₂ h₂ e₃ h₃ (λ m n b p. record { kind = kind.MapGet (eqb b 1); first = items_of p m; second = items_of (p + 4 + m) n }) (rw (x, y, z)))

module _ (set : Settings) {s : List ℕ} {c c₁ : Cursor} {q₁ : Read ℕ} {a : ℕ} {t t₁ : List ℕ} (e₁ : q₁ ≡ Ok (a, c₁)) where
  pub slot_record : {r : Read MetadataRecord} {t' : List ℕ} → NumberOf u16 number s c t q₁ t₁
      → RecordOf (slot_types set) (one_of (kind.SlotLayout a)) s c₁ t₁ r t'
      → RecordOf (slot_layout set) slot_of s c t r t'
  slot_record h₁ m = record_on (bare_of kind.None) (λ _ _ k. recorded_then e₁ h₁ (λ _. slot_types set) (λ a p v. one_of (kind.SlotLayout a) (p + 2) v) (recorded_place (fixed-place e₁ h₁) k)) m

  module _ {c₂ : Cursor} {q₂ : Read ℕ} {b : ℕ} {t₂ : List ℕ} (e₂ : q₂ ≡ Ok (b, c₂)) {r : Read MetadataRecord} {t' : List ℕ} where
    pub elem_record : NumberOf u32 number s c t q₁ t₁ → NumberOf bool number s c₁ t₁ q₂ t₂
        → RecordOf (slot_types set) (one_of (kind.ElemLayout a (eqb b 1))) s c₂ t₂ r t'
        → RecordOf (elem_layout set) elem_of s c t r t'
    elem_record h₁ h₂ m = record_on (bare_of kind.None) (λ _ _ k. recorded_two e₁ h₁ e₂ h₂ (slot_types set) (λ a b p v. one_of (kind.ElemLayout a (eqb b 1)) (p + 5) v) (recorded_place {p = c.place + 5} (omega (arith, fixed-place e₁ h₁, fixed-place e₂ h₂)) k)) m

    pub assert_record : NumberOf assert_kind number s c t q₁ t₁ → NumberOf u32 number s c₁ t₁ q₂ t₂
        → RecordOf (slot_types set) (one_of (kind.IfaceAssertLayout a b)) s c₂ t₂ r t'
        → RecordOf (iface_assert set) assert_of s c t r t'
    assert_record h₁ h₂ m = record_on (bare_of kind.None) (λ _ _ k. recorded_two e₁ h₁ e₂ h₂ (slot_types set) (λ a b p v. one_of (kind.IfaceAssertLayout a b) (p + 5) v) (recorded_place {p = c.place + 5} (omega (arith, fixed-place e₁ h₁, fixed-place e₂ h₂)) k)) m

    pub call_iface_record : NumberOf u32 number s c t q₁ t₁ → NumberOf u32 number s c₁ t₁ q₂ t₂
        → RecordOf (two_layouts set) (two_of (kind.CallIfaceLayout a b)) s c₂ t₂ r t'
        → RecordOf (call_iface set) call_iface_of s c t r t'
    call_iface_record h₁ h₂ m = record_on (bare_of kind.None) (λ _ _ k. recorded_two e₁ h₁ e₂ h₂ (two_layouts set) (λ a b p v. two_of (kind.CallIfaceLayout a b) (p + 8) v) (recorded_place {p = c.place + 8} (omega (arith, fixed-place e₁ h₁, fixed-place e₂ h₂)) k)) m

-- ---- by the tag

pub metadata_at : (set : Settings) (k : ℕ) {s : List ℕ} {c d : Cursor} {q : Read ℕ} {n : ℕ} {r : Read MetadataRecord} {t t₁ t₂ : List ℕ}
    → q ≡ Ok (n, d) → n ≡ k → NumberOf metadata_tagged number s c t q t₁
    → RecordOf (get_or (metadata_variants set) k empty) (λ p v. get_or (metadata_records p v) k (bare_of kind.None)) s d t₁ r t₂
    → RecordOf (metadata set) metadata_of s c t r t₂
unfolding metadata metadata_of
metadata_at set k e i h m = record_on (bare_of kind.None) (λ _ _. variant_at (metadata_variants set) metadata_records (bare_of kind.None) k e i h) m

-- a tag of metadata is at most 5, or from 9 to 18
pub tag-range : (n : ℕ) → T (pick (leb n 5) true (pick (leb 9 n) (leb n 18) false)) → 5 < n → (9 ≤ n) × (n ≤ 18)
unfolding pick
tag-range n h i = let e : leb n 5 ≡ false = lt-leb n 5 i in go (leb 9 n) refl (rw e at h)
  where
    go : (d : Bool) → leb 9 n ≡ d → T (pick d (leb n 18) false) → (9 ≤ n) × (n ≤ 18)
    go true e h = (leb→le 9 n (rw e tt), leb→le n 18 h)
    go false e h = elim h [ ]
