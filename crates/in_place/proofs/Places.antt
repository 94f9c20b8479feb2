-- Where the parts of an item stand, item format by item format.
use Rattle.std.proofs.Common.{ℕ, ◌+◌, ◌≤◌, ◌≡◌, ◌⊎◌, List, T, length, get_or, refl, ap, sym, ◌∙◌, inl, inr, arith, leb→le}
use Rattle.format.specs.Trace.{out}
use Rattle.format.specs.Format.{Value, num, text, first, second, Width, byte, word, Rule, fixed, Format, empty, leaf, seq, ◌▸◌}
use Rattle.format.specs.Reading.{little, part, size, trace}
use Rattle.vob24.specs.Refusals.{invalid_boolean}
use Rattle.vob24.specs.Leaves.{str, optional, at_most, u16, bool, value_rttid}
use Rattle.vob24.specs.Grammar.{struct_field, interface_method, runtime_method, method, runtime_field, identity}
use Rattle.reader.proofs.Gather.{read_take}
use Rattle.in_place.specs.declared.Item.{Item}
use Rattle.in_place.specs.declared.Item.TheVariants.{Name, StructField, InterfaceMethod, RuntimeMethod, NamedMethod, RuntimeField}
use Rattle.in_place.specs.Walk.{Stands, value_at, next_at, parts, passed}
use Rattle.in_place.specs.Items.{format_of, name_of, text_at, end_of, package_at}
use Rattle.in_place.specs.Contract.{TextAt, EndIs, Placed, Past, PackageIs}

-- a text that was read
record TextStands (s : List ℕ) (p : ℕ) : Type 0 where
  room : end_of s p ≤ length s
  next : next_at str s p ≡ end_of s p
  value : value_at str s p ≡ text (p + 4) (text_at s p)

text-stands : {s : List ℕ} {p : ℕ} → Stands str s p → TextStands s p
text-stands h = let a = passed h in record { room = a.0; next = a.4; value = a.3 }

-- a number that was read
pub record NumberStands (w : Width) (r : Rule) (s : List ℕ) (p : ℕ) : Type 0 where
  pub room : p + size w ≤ length s
  pub next : next_at (leaf (fixed w r)) s p ≡ p + size w
  pub value : value_at (leaf (fixed w r)) s p ≡ num (little (part s p (size w)))
  pub passes : T (r.test (little (part s p (size w))))

pub number-stands : {w : Width} {r : Rule} {s : List ℕ} {p : ℕ} → Stands (leaf (fixed w r)) s p → NumberStands w r s p
number-stands h = let a = passed h in record { room = a.0; next = a.3; value = a.2; passes = a.1 }

-- an optional text: its tag, and what the tag says
pub record OptionStands (s : List ℕ) (p : ℕ) : Type 0 where
  pub room : p + 1 ≤ length s
  pub absent : get_or s p 0 ≡ 0 → next_at (optional str) s p ≡ p + 1
  pub present : (get_or s p 0 ≡ 0 → ⊥) → (end_of s (p + 1) ≤ length s) × (next_at (optional str) s p ≡ end_of s (p + 1))

empty-next : (s : List ℕ) (p : ℕ) → next_at empty s p ≡ p
unfolding next_at trace out
empty-next s p = refl

pub option-stands : {s : List ℕ} {p : ℕ} → Stands (optional str) s p → OptionStands s p
unfolding little
option-stands {s} {p} h =
    let a = parts h in
    let b = number-stands a.fore in
    let x : little (part s p 1) ≡ get_or s p 0 = ap little (read_take 1 s p b.room) ∙ omega arith in
    let v : value_at (leaf (fixed byte (at_most 1 invalid_boolean))) s p ≡ num (get_or s p 0) = b.value ∙ ap num x in
    let m : get_or s p 0 ≤ 1 = omega (arith, leb→le (little (part s p 1)) 1 b.passes) in
    record {
      room = b.room;
      absent = λ e. (rw (v, b.next) at a.next) ∙ rw e (empty-next s (p + 1));
      present = λ e.
          let o : get_or s p 0 ≡ 1 = omega arith in
          let k : Stands str s (p + 1) = rw (v, b.next, o) at a.back in
          let n : next_at (optional str) s p ≡ next_at str s (p + 1) = rw (v, b.next, o) at a.next in
          let y = text-stands k in
          (y.room, n ∙ y.next);
    }

-- ---- every item starts with its name

pub record NameStands (i : Item) (s : List ℕ) (p : ℕ) : Type 0 where
  pub room : end_of s p ≤ length s
  pub value : name_of i (value_at (format_of i) s p) ≡ text (p + 4) (text_at s p)

first-stands : {g : Value → Format} {s : List ℕ} {p : ℕ} → Stands (seq str g) s p
    → (end_of s p ≤ length s) × (first (value_at (seq str g) s p) ≡ text (p + 4) (text_at s p))
first-stands h = let a = parts h in let t = text-stands a.fore in (t.room, ap first a.value ∙ t.value)

pub name-stands : (i : Item) {s : List ℕ} {p : ℕ} → Stands (format_of i) s p → NameStands i s p
unfolding struct_field interface_method runtime_method method runtime_field
name-stands Name h = let t = text-stands h in record { room = t.room; value = t.value }
name-stands StructField h = let t = first-stands h in record { room = t.0; value = t.1 }
name-stands InterfaceMethod h = let t = first-stands h in record { room = t.0; value = t.1 }
name-stands RuntimeMethod h = let t = first-stands h in record { room = t.0; value = t.1 }
name-stands NamedMethod h = let t = first-stands h in record { room = t.0; value = t.1 }
name-stands RuntimeField h = let t = first-stands h in record { room = t.0; value = t.1 }

-- ---- what stands after it

word_next : {r : Rule} {s : List ℕ} {p : ℕ} → Stands (str ▸ leaf (fixed word r)) s p
    → (end_of s p + 4 ≤ length s) × (next_at (str ▸ leaf (fixed word r)) s p ≡ end_of s p + 4)
word_next h =
    let a = parts h in
    let t = text-stands a.fore in
    let x = number-stands a.back in
    (omega (arith, t.next, x.room), omega (arith, a.next, t.next, x.next))

method-next : {s : List ℕ} {p : ℕ} → Stands method s p
    → (end_of s p + 10 ≤ length s) × (next_at method s p ≡ end_of s p + 10)
unfolding method
method-next h =
    let a = parts h in
    let b = parts a.back in
    let c = parts b.back in
    let d = parts c.back in
    let t = text-stands a.fore in
    let x1 = number-stands b.fore in
    let x2 = number-stands c.fore in
    let x3 = number-stands d.fore in
    let x4 = number-stands d.back in
    (omega (arith, t.next, x1.next, x2.next, x3.next, x4.room), omega (arith, a.next, b.next, c.next, d.next, t.next, x1.next, x2.next, x3.next, x4.next))

record FieldStands (s : List ℕ) (p : ℕ) : Type 0 where
  room : end_of s p + 9 ≤ length s
  rest : Stands (optional str) s (end_of s p + 9)
  next : next_at struct_field s p ≡ next_at (optional str) s (end_of s p + 9)

field-stands : {s : List ℕ} {p : ℕ} → Stands struct_field s p → FieldStands s p
unfolding struct_field
field-stands {s} {p} h =
    let a = parts h in
    let b = parts a.back in
    let c = parts b.back in
    let d = parts c.back in
    let e = parts d.back in
    let t = text-stands a.fore in
    let x1 = number-stands b.fore in
    let x2 = number-stands c.fore in
    let x3 = number-stands d.fore in
    let x4 = number-stands e.fore in
    let y : next_at bool s (next_at value_rttid s (next_at u16 s (next_at u16 s (next_at str s p)))) ≡ end_of s p + 9 = omega (arith, t.next, x1.next, x2.next, x3.next, x4.next) in
    record {
      room = omega (arith, t.next, x1.next, x2.next, x3.next, x4.next, x4.room);
      rest = rw y at e.back;
      next = a.next ∙ b.next ∙ c.next ∙ d.next ∙ e.next ∙ rw y;
    }

pub record RuntimeStands (s : List ℕ) (p : ℕ) : Type 0 where
  pub typ : end_of s p + 4 ≤ length s
  pub tag : end_of s (end_of s p + 4) + 1 ≤ length s
  pub pkg : end_of s (package_at s p) ≤ length s
  pub next : next_at runtime_field s p ≡ end_of s (package_at s p)
  pub value : (identity (value_at runtime_field s p)).0 ≡ text (package_at s p + 4) (text_at s (package_at s p))

pub runtime-stands : {s : List ℕ} {p : ℕ} → Stands runtime_field s p → RuntimeStands s p
unfolding runtime_field
runtime-stands {s} {p} h =
    let a = parts h in
    let b = parts a.back in
    let c = parts b.back in
    let d = parts c.back in
    let t = text-stands a.fore in
    let x = number-stands b.fore in
    let y : next_at value_rttid s (next_at str s p) ≡ end_of s p + 4 = omega (arith, t.next, x.next) in
    let u : TextStands s (end_of s p + 4) = text-stands (rw y at c.fore) in
    let z = number-stands d.fore in
    let w : next_at bool s (next_at str s (next_at value_rttid s (next_at str s p))) ≡ package_at s p = z.next ∙ rw (y, u.next) in
    let k : TextStands s (package_at s p) = text-stands (rw w at d.back) in
    record {
      typ = omega (arith, t.next, x.room);
      tag = rw (y, u.next) at z.room;
      pkg = k.room;
      next = a.next ∙ b.next ∙ c.next ∙ d.next ∙ rw w k.next;
      value = ap (λ v. second (second (second (second v)))) a.value ∙ ap (λ v. second (second (second v))) b.value ∙ ap (λ v. second (second v)) c.value ∙ ap second d.value ∙ rw w k.value;
    }

-- ---- the code's places

module _ {s : List ℕ} {p : ℕ} where
  -- the text past the tag of an optional one
  module _ (h : Placed (optional str) s p) where
    pub option-room : p + 1 ≤ length s
    option-room = (option-stands h.stands).room

    pub option-absent : get_or s p 0 ≡ 0 → Past (optional str) s p (p + 1)
    option-absent e = record { is = sym ((option-stands h.stands).absent e) }

    module _ (e : get_or s p 0 ≡ 0 → ⊥) where
      pub option-text : TextAt s (p + 1)
      option-text = record { small = h.small; room = ((option-stands h.stands).present e).0 }

      pub option-present : {q : ℕ} → EndIs s (p + 1) q → Past (optional str) s p q
      option-present w = record { is = w.is ∙ sym ((option-stands h.stands).present e).1 }

  -- a runtime struct's field
  module _ (h : Placed runtime_field s p) where
    pub runtime-name : TextAt s p
    runtime-name = record { small = h.small; room = (name-stands RuntimeField h.stands).room }

    pub runtime-package : {q : ℕ} → PackageIs s p q → TextAt s q
    runtime-package w = rw w.is (record { small = h.small; room = (runtime-stands h.stands).pkg })

    module _ {q : ℕ} (w : EndIs s p q) where
      pub runtime-typ : q + 4 ≤ length s
      runtime-typ = rw w.is (runtime-stands h.stands).typ

      pub runtime-tag : TextAt s (q + 4)
      runtime-tag = rw w.is (record { small = h.small; room = let a = (runtime-stands h.stands).tag in omega arith })

      module _ {e : ℕ} (v : EndIs s (q + 4) e) where
        pub runtime-embedded : e + 1 ≤ length s
        runtime-embedded = rw (v.is, w.is) (runtime-stands h.stands).tag

  pub item-name : (i : Item) → Placed (format_of i) s p → TextAt s p
  item-name i h = record { small = h.small; room = (name-stands i h.stands).room }

  -- the answers of `past`
  module _ {i : Item} (h : Placed (format_of i) s p) where
    module _ {q : ℕ} (w : EndIs s p q) where
      pub past-name : i ≡ Name → Past (format_of i) s p q
      past-name e = rw e (record { is = w.is ∙ sym (text-stands (rw e at h.stands)).next })

      -- a method's name and type
      pub past-typed : (i ≡ InterfaceMethod) ⊎ (i ≡ RuntimeMethod) → (q + 4 ≤ length s) × Past (format_of i) s p (q + 4)
      unfolding interface_method runtime_method
      past-typed (inl e) = let a = word_next (rw e at h.stands) in rw (e, w.is) (a.0, record { is = sym a.1 })
      past-typed (inr e) = let a = word_next (rw e at h.stands) in rw (e, w.is) (a.0, record { is = sym a.1 })

      pub past-method : i ≡ NamedMethod → (q + 10 ≤ length s) × Past (format_of i) s p (q + 10)
      past-method e = let a = method-next (rw e at h.stands) in rw (e, w.is) (a.0, record { is = sym a.1 })

      pub past-field : i ≡ StructField → (q + 9 ≤ length s) × Placed (optional str) s (q + 9)
      past-field e = let a = field-stands (rw e at h.stands) in rw w.is (a.room, record { small = h.small; stands = a.rest })

      pub past-field-end : {z : ℕ} → i ≡ StructField → Past (optional str) s (q + 9) z → Past (format_of i) s p z
      past-field-end e v = let a = field-stands (rw e at h.stands) in rw e (record { is = v.is ∙ rw w.is (sym a.next) })

    pub past-identity : i ≡ RuntimeField → Placed runtime_field s p
    past-identity e = rw e at h

    pub past-identity-end : {q z : ℕ} → i ≡ RuntimeField → PackageIs s p q → EndIs s q z → Past (format_of i) s p z
    past-identity-end e w v = let a = runtime-stands (rw e at h.stands) in rw e (record { is = v.is ∙ rw w.is (sym a.next) })
