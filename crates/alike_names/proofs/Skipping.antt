-- What is passed over: itabs, and runtime types that are no interface.
use Rattle.std.proofs.Common.{ℕ, suc, zero, ◌+◌, ◌≤◌, ◌≡◌, refl, sym, ◌∙◌, List, [], ◌∷◌, ◌++◌, map, arith, length, get_or, take}
use Rattle.format.specs.Format.{Width, Rule, fixed, Format, empty, leaf, seq, ◌▸◌, entries}
use Rattle.format.specs.Reading.{size}
use Rattle.vob24.specs.Settings.{Settings, U32, StructField}
use Rattle.vob24.specs.Leaves.{u32}
use Rattle.vob24.specs.Grammar.{asking, identity, list, itab, field_set, rttids, runtime_field, runtime_struct, runtime_variants, section, itabs}
use Rattle.in_place.specs.declared.Item.TheVariants.{RuntimeField}
use Rattle.in_place.specs.Walk.{Stands, parts}
use Rattle.in_place.specs.Items.{format_of}
use Rattle.in_place.specs.Contract.{WordIs, Placed, Past, Items, PastItems}
use Rattle.alike_names.specs.Tables.{WordsAt, WordsEnd, variant, OtherAt}
use Rattle.in_place.proofs.Lists.{ListStands, list-stands}
use Rattle.alike_names.proofs.Lists.{Behind, behind, AskedStands, asked-stands}
use Rattle.alike_names.proofs.Sizes.{Sized, sized-none, sized-number, sized-both, SizedList, sized-list, words-at, words-past}

-- the fields of a runtime struct, and the question on them
abbrev fields_asked : Settings → Format
fields_asked set = seq (list set StructField runtime_field) (λ fields. asking (field_set set (map identity (entries fields))))

-- ---- itabs

module _ (set : Settings) {s : List ℕ} {p : ℕ} where
  pub itabs-list : Placed (section set 0 itabs) s p → ListStands (section set 0 itabs) (itab set) s p
  unfolding section
  itabs-list h = list-stands h.stands

  -- the methods of one, behind its id
  module _ (h : Placed (itab set) s p) where
    itab-methods : Behind (itab set) (list set U32 u32) s p (p + 4)
    unfolding itab
    itab-methods = behind (sized-number.next (parts h.stands).fore) h.stands

    itab-list : SizedList 4 (list set U32 u32) s (p + 4)
    itab-list = let b = itab-methods.stands in sized-list sized-number b (list-stands b)

    pub itab-words : WordsAt s (p + 4)
    itab-words = words-at itab-list h.small

    pub itab-past : {q : ℕ} → WordsEnd s (p + 4) q → Past (itab set) s p q
    itab-past w = record { is = (words-past itab-list w).is ∙ sym itab-methods.next }

-- ---- runtime types, from behind the tag

-- the tags of those that have a fixed size, and the size
pub data Plain : ℕ → ℕ → Type 0 where
  basic : Plain 0 1
  named : Plain 1 8
  pointer : Plain 2 4
  array : Plain 3 12
  slice : Plain 4 4
  mapping : Plain 5 8
  channel : Plain 6 5
  port : Plain 11 5

two-numbers : {w w' : Width} {r r' : Rule} → Sized (leaf (fixed w r) ▸ leaf (fixed w' r')) (size w + size w')
two-numbers = sized-both sized-number (λ _. sized-number)

plain-sized : (set : Settings) {tag k : ℕ} → Plain tag k → Sized (variant set tag) k
plain-sized set basic = sized-number
plain-sized set named = two-numbers
plain-sized set pointer = sized-number
plain-sized set array = two-numbers
plain-sized set slice = sized-number
plain-sized set mapping = two-numbers
plain-sized set channel = two-numbers
plain-sized set port = two-numbers

-- none of these
abbrev none_of : Type 0 → List ℕ → ℕ → Type 0
none_of N [] n = N
none_of N (k ∷ ks) n = none_of (N × (n ≡ k → ⊥)) ks n

above : {k n : ℕ} → k ≤ n → (n ≡ k → ⊥) → k + 1 ≤ n
above h e = omega arith

-- past the others the last alone is left, and it is empty
past_end : {A : Type 0} (xs : List A) (d : A) (n : ℕ) → length xs ≤ n → get_or (xs ++ (d ∷ [])) n d ≡ d
past_end [] d zero h = refl
past_end [] d (suc n) h = refl
past_end (x ∷ xs) d zero h = absurd (omega arith)
past_end (x ∷ xs) d (suc n) h = past_end xs d n (omega arith)

-- a list of rttids
rttids-list : (set : Settings) {s : List ℕ} {p : ℕ} → Stands (rttids set) s p → SizedList 4 (rttids set) s p
rttids-list set h = sized-list sized-number h (list-stands h)

module _ {set : Settings} {tag : ℕ} {s : List ℕ} {p : ℕ} (h : OtherAt set tag s p) where
  pub plain-past : {t k : ℕ} → Plain t k → tag ≡ t → Past (variant set tag) s p (p + k)
  plain-past a e = rw e (record { is = sym ((plain-sized set a).next (rw e at h.placed.stands)) })

  pub none-past : none_of (Unit {0}) (0 ∷ 1 ∷ 2 ∷ 3 ∷ 4 ∷ 5 ∷ 6 ∷ 7 ∷ 8 ∷ 10 ∷ 11 ∷ []) tag → Past (variant set tag) s p p
  none-past r =
      let a : 4 ≤ tag = above (above (above (above (omega arith) r.0.0.0.0.0.0.0.0.0.0.1) r.0.0.0.0.0.0.0.0.0.1) r.0.0.0.0.0.0.0.0.1) r.0.0.0.0.0.0.0.1 in
      let b : 8 ≤ tag = above (above (above (above a r.0.0.0.0.0.0.1) r.0.0.0.0.0.1) r.0.0.0.0.1) r.0.0.0.1 in
      let d : 12 ≤ tag = above (above (above (above b r.0.0.1) h.other) r.0.1) r.1 in
      let z : variant set tag ≡ empty = past_end (take 12 (runtime_variants set)) empty tag (omega arith) in
      rw z (record { is = omega (arith, sized-none.next (rw z at h.placed.stands)) })

  -- a function: whether it is variadic, parameters, results
  module _ (e : tag ≡ 7) where
    func-behind : Behind (variant set tag) (rttids set ▸ rttids set) s p (p + 1)
    func-behind = rw e (behind (sized-number.next (parts (rw e at h.placed.stands)).fore) (rw e at h.placed.stands))

    func-first : SizedList 4 (rttids set) s (p + 1)
    func-first = rttids-list set (parts func-behind.stands).fore

    pub func-words : WordsAt s (p + 1)
    func-words = words-at func-first h.placed.small

    module _ {q : ℕ} (w : WordsEnd s (p + 1) q) where
      func-second : Behind (rttids set ▸ rttids set) (rttids set) s (p + 1) q
      func-second = behind (sym (words-past func-first w).is) func-behind.stands

      pub func-more : WordsAt s q
      func-more = words-at (rttids-list set func-second.stands) h.placed.small

      pub func-past : {z : ℕ} → WordsEnd s q z → Past (variant set tag) s p z
      func-past v = record { is = (words-past (rttids-list set func-second.stands) v).is ∙ sym (func-behind.next ∙ func-second.next) }

  -- a tuple
  module _ (e : tag ≡ 10) where
    tuple-list : SizedList 4 (variant set tag) s p
    tuple-list = rw e (rttids-list set (rw e at h.placed.stands))

    pub tuple-words : WordsAt s p
    tuple-words = words-at tuple-list h.placed.small

    pub tuple-past : {q : ℕ} → WordsEnd s p q → Past (variant set tag) s p q
    tuple-past w = words-past tuple-list w

  -- a struct: its id, its fields, the question on them
  module _ (e : tag ≡ 8) where
    struct-behind : Behind (variant set tag) (fields_asked set) s p (p + 4)
    unfolding runtime_struct
    struct-behind = rw e (behind (sized-number.next (parts (rw e at h.placed.stands)).fore) (rw e at h.placed.stands))

    struct_fields : AskedStands (fields_asked set) runtime_field (λ vs. field_set set (map identity vs)) s (p + 4)
    struct_fields = asked-stands (λ vs. field_set set (map identity vs)) struct-behind.stands

    pub struct-word : p + 4 + 4 ≤ length s
    struct-word = struct_fields.room

    module _ {n : ℕ} (w : WordIs s (p + 4) n) where
      pub struct-items : Items (format_of RuntimeField) n s (p + 8)
      struct-items =
          let z : p + 4 + 4 ≡ p + 8 = omega arith in
          rw (← z, w.is) (record { small = h.placed.small; all = struct_fields.all })

      pub struct-past : {q : ℕ} → PastItems (format_of RuntimeField) n s (p + 8) q → Past (variant set tag) s p q
      struct-past v =
          let z : p + 4 + 4 ≡ p + 8 = omega arith in
          record { is = v.is ∙ rw (← z, w.is) (sym (struct-behind.next ∙ struct_fields.next)) }
