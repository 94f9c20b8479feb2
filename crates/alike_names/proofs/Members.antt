-- The laws of records that have a table: where it stands, that its names are new, and the walk over it.
use Rattle.std.proofs.Common.{ℕ, ◌+◌, ◌≤◌, ◌≡◌, refl, ap, sym, ◌∙◌, List, [], ◌∷◌, map, arith, length, get_or, eq-eqb, ne_eqb, ControlFlow, Continue, Break}
use Rattle.format.specs.Trace.{pick, Ends}
use Rattle.format.specs.Format.{Value, num, number, first, second, count, Format, leaf, chain, items, entries}
use Rattle.format.specs.Reading.{little, part, trace}
use Rattle.format.specs.Layout.{clear}
use Rattle.format.proofs.TraceTheorems.{leaf-ends, seq-ends}
use Rattle.vob24.specs.Refusals.{named_method_map}
use Rattle.vob24.specs.Settings.{Settings, max_pack_bytes}
use Rattle.vob24.specs.Fields.{variant_of, new_method_of, interface_of, runtime_interface_of}
use Rattle.vob24.specs.Leaves.{free}
use Rattle.vob24.specs.Grammar.{field_name, method_name, slot_types, field_index, struct, method_set, interface, method_size, methods, named_type, runtime_interface, runtime_type, new_method, also_seen}
use Rattle.alike.specs.Alike.{field_table, interface_tables, method_table, runtime_tables, pair_in}
use Rattle.alike_theorems.specs.NewNames.{AllNew, keys-new, names-new}
use Rattle.reader.proofs.Gather.{read_take}
use Rattle.in_place.specs.declared.Item.{Item}
use Rattle.in_place.specs.declared.Item.TheVariants.{Name, StructField, InterfaceMethod, RuntimeMethod, NamedMethod}
use Rattle.in_place.specs.Walk.{Stands, value_at, next_at, items_at, last_at, AllStand, parts, passed}
use Rattle.in_place.specs.Items.{format_of, end_of}
use Rattle.in_place.specs.Contract as place
use Rattle.in_place.specs.Contract.{WordIs, Placed}
use Rattle.in_place.proofs.Places.{number-stands}
use Rattle.alike_names.specs.Contract.{table_of, TableAt, Walks, past, TableWalk}
use Rattle.alike_names.specs.Tables.{variant, OtherAt, struct_tables, named_tables, WalksAt}
use Rattle.alike_names.specs.declared.AlikeNames.{AlikeNames}
use Rattle.in_place.proofs.Lists.{list-stands}
use Rattle.alike_names.proofs.Lists.{behind, asked-stands}
use Rattle.alike_names.proofs.Sizes.{sized-number, sized-list}
use Rattle.alike_names.proofs.NewNames.{methods-stand}
use Rattle.alike_names.proofs.Pairs.{walks-found, walks-then}

-- A list of such items at p, whose names are those of the table t and are new, and the place q past it.
pub record TableStands (i : Item) (t : List Value) (s : List ℕ) (p q : ℕ) : Type 0 where
  pub small : length s ≤ max_pack_bytes
  pub room : p + 4 ≤ length s
  pub all : AllStand (format_of i) (little (part s p 4)) s (p + 4)
  pub new : AllNew [] t
  pub table : t ≡ table_of i (items_at (format_of i) (little (part s p 4)) s (p + 4))
  pub next : q ≡ last_at (format_of i) (little (part s p 4)) s (p + 4)

-- the table t of the f at p, a list at q behind which the f ends
abbrev TableIn : Format → Item → (Value → List Value) → List ℕ → ℕ → ℕ → Type 0
TableIn f i t s p q = TableStands i (t (value_at f s p)) s q (next_at f s p)

module _ {i : Item} {t : List Value} {s : List ℕ} {p q : ℕ} (h : TableStands i t s p q) {n : ℕ} (w : WordIs s p n) where
  pub table_at : TableAt i n s (p + 4)
  table_at = rw w.is (record { items = record { small = h.small; all = h.all }; new = rw h.table at h.new })

  pub table-walks : {x : ControlFlow AlikeNames ℕ} → TableWalk i n s (p + 4) x → Walks (t ∷ []) q x
  table-walks {x} a = rw (h.table, h.next) (rw w.is at a.walks)

-- ---- structs

-- the place past the slot types, one byte each
abbrev pub fields_at : List ℕ → ℕ → ℕ
fields_at s p = p + 4 + little (part s p 4)

module _ (set : Settings) {s : List ℕ} {p : ℕ} (h : Placed (struct set) s p) where
  slots-stand : (fields_at s p ≤ length s) × (next_at (slot_types set) s p ≡ fields_at s p)
  unfolding struct
  slots-stand =
      let a = (parts h.stands).fore in
      let l = sized-list sized-number a (list-stands a) in
      (omega (arith, l.room), omega (arith, l.next))

  pub struct-slots : fields_at s p ≤ length s
  struct-slots = slots-stand.0

  pub struct-table : TableIn (struct set) StructField field_table s p (fields_at s p)
  unfolding struct clear
  struct-table =
      let b = behind slots-stand.1 h.stands in
      let a = asked-stands (λ vs. field_index set (map field_name vs)) b.stands in
      let e = ap (λ v. entries (first v)) b.value ∙ a.value in
      record {
        small = h.small;
        room = a.room;
        all = a.all;
        new = rw e (keys-new [] _ a.passes);
        table = rw e;
        next = b.next ∙ a.next;
      }

  -- as the code has it, with the two counts in hand
  module _ {m : ℕ} (w : WordIs s p m) where
    pub struct-here : TableIn (struct set) StructField field_table s p (p + 4 + m)
    struct-here = rw w.is struct-table

    pub struct-walks : {n : ℕ} {x : ControlFlow AlikeNames ℕ} → WordIs s (p + 4 + m) n → TableWalk StructField n s (p + 4 + m + 4) x
        → WalksAt (struct set) struct_tables s p x
    struct-walks v a = record { walks = table-walks struct-here v a }

-- ---- interfaces

-- its method names, and the names of its methods
abbrev listed_names : Value → List Value
listed_names v = entries (interface_of v).method_names

abbrev listed_methods : Value → List Value
listed_methods v = map method_name (entries (interface_of v).methods)

pub record InterfaceStands (set : Settings) (s : List ℕ) (p : ℕ) : Type 0 where
  pub name : end_of s p ≤ length s
  pub mid : ℕ
  pub names : TableStands Name (listed_names (value_at (interface set) s p)) s (end_of s p) mid
  pub methods : TableIn (interface set) InterfaceMethod listed_methods s p mid

pub interface-stands : (set : Settings) {s : List ℕ} {p : ℕ} → Placed (interface set) s p → InterfaceStands set s p
unfolding interface clear
interface-stands set h =
    let x = passed (parts h.stands).fore in
    let b = behind x.4 h.stands in
    let a = parts b.stands in
    let l = list-stands a.fore in
    let c = parts a.back in
    let m = list-stands c.fore in
    let d = parts c.back in
    let y = passed d.fore in
    let z = passed d.back in
    let f = b.value ∙ a.value in
    let e = ap (λ v. entries (first v)) f ∙ l.value in
    let g = ap (λ v. entries (first (second v))) f ∙ ap (λ v. entries (first v)) c.value ∙ m.value in
    record {
      name = x.0;
      mid = _;
      names = record {
        small = h.small;
        room = l.room;
        all = l.all;
        new = rw e (names-new [] _ (rw l.value at y.0));
        table = e;
        next = l.next;
      };
      methods = record {
        small = h.small;
        room = m.room;
        all = m.all;
        new = rw g (names-new [] _ (rw m.value at z.0));
        table = rw g;
        next = b.next ∙ a.next ∙ c.next ∙ d.next ∙ z.2 ∙ y.2 ∙ m.next;
      };
    }

module _ (set : Settings) {s : List ℕ} {p : ℕ} (h : Placed (interface set) s p) {m : ℕ} (w : WordIs s p m) where
  pub interface-names : TableStands Name (listed_names (value_at (interface set) s p)) s (p + 4 + m) (interface-stands set h).mid
  interface-names = rw w.is (interface-stands set h).names

  module _ {n : ℕ} {x : ControlFlow AlikeNames ℕ} (v : WordIs s (p + 4 + m) n) (a : TableWalk Name n s (p + 4 + m + 4) x) where
    pub interface-found : {y : AlikeNames} → x ≡ Break y → WalksAt (interface set) interface_tables s p (Break y)
    interface-found e = record { walks = walks-found (_ ∷ []) (_ ∷ []) (rw e at (table-walks interface-names v a)) }

    module _ {q : ℕ} (e : x ≡ Continue q) where
      names-past : Walks (listed_names (value_at (interface set) s p) ∷ []) (interface-stands set h).mid (Continue q)
      names-past = rw e at (table-walks interface-names v a)

      pub interface-methods : TableIn (interface set) InterfaceMethod listed_methods s p q
      interface-methods = go names-past
        where
          go : {t : List Value} → Walks (t ∷ []) (interface-stands set h).mid (Continue q)
              → TableIn (interface set) InterfaceMethod listed_methods s p q
          go (past i j) = rw j (interface-stands set h).methods

      pub interface-walks : {k : ℕ} {y : ControlFlow AlikeNames ℕ} → WordIs s q k → TableWalk InterfaceMethod k s (q + 4) y
          → WalksAt (interface set) interface_tables s p y
      interface-walks u b = record { walks = walks-then (_ ∷ []) (_ ∷ []) names-past (table-walks interface-methods u b) }

-- ---- named types

-- the place past the name and two words
abbrev pub methods_at : List ℕ → ℕ → ℕ
methods_at s p = end_of s p + 8

abbrev method_names : Value → List Value
method_names v = map (λ m. method_name (new_method_of m).method) (entries v)

methods-table : (set : Settings) {s : List ℕ} {p : ℕ} → length s ≤ max_pack_bytes → Stands (methods set) s p
    → TableIn (methods set) NamedMethod method_names s p p
unfolding methods trace
methods-table set {s} {p} h a =
    let f = count free 14 named_method_map (method_size set) in
    let b = seq-ends (leaf f) (λ n. chain new_method also_seen [] (number n)) s p a.ends in
    let x = leaf-ends f s p b.fore in
    go _ _ x.2 x.3 b.back (omega (arith, x.0))
  where
    go : (v : Value) (k : ℕ) {w : Value} {q : ℕ} → v ≡ num (little (part s p 4)) → k ≡ p + 4
        → Ends (trace (chain new_method also_seen [] (number v)) s k) w q → p + 4 ≤ length s
        → TableStands NamedMethod (map (λ m. method_name (new_method_of m).method) (items (number v) w)) s p q
    go v k {w} {q} e i j r =
        let m = methods-stand [] (little (part s p 4)) s (p + 4) (rw (e, i) at j) in
        rw e (record { small = h; room = r; all = m.all; new = rw m.names m.new; table = m.names; next = m.last })

pub named_table : (set : Settings) {s : List ℕ} {p : ℕ} → Placed (named_type set) s p
    → TableIn (named_type set) NamedMethod method_table s p (methods_at s p)
unfolding named_type
named_table set {s} {p} h =
    let a = behind (passed (parts h.stands).fore).4 h.stands in
    let b = behind (sized-number.next (parts a.stands).fore) a.stands in
    let c = behind (sized-number.next (parts b.stands).fore) b.stands in
    let e = ap (λ v. second (second v)) a.value ∙ ap second b.value ∙ c.value in
    let z : end_of s p + 4 + 4 ≡ methods_at s p = omega arith in
    rw (← z, e, a.next ∙ b.next ∙ c.next) (methods-table set h.small c.stands)

module _ (set : Settings) {s : List ℕ} {p : ℕ} (h : Placed (named_type set) s p) {m : ℕ} (w : WordIs s p m) where
  pub named_here : TableIn (named_type set) NamedMethod method_table s p (p + 4 + m + 8)
  named_here = rw w.is (named_table set h)

  pub named-walks : {n : ℕ} {x : ControlFlow AlikeNames ℕ} → WordIs s (p + 4 + m + 8) n → TableWalk NamedMethod n s (p + 4 + m + 8 + 4) x
      → WalksAt (named_type set) named_tables s p x
  named-walks v a = record { walks = table-walks named_here v a }

-- ---- runtime types

-- the names of an interface's methods
abbrev runtime_names : Value → List Value
runtime_names v = map method_name (entries (runtime_interface_of (variant_of v).part).methods)

pub record RuntimeStands (set : Settings) (s : List ℕ) (p : ℕ) : Type 0 where
  pub room : p + 1 ≤ length s
  pub part : Placed (variant set (get_or s p 0)) s (p + 1)
  pub next : next_at (runtime_type set) s p ≡ next_at (variant set (get_or s p 0)) s (p + 1)
  pub tag : number (first (value_at (runtime_type set) s p)) ≡ get_or s p 0
  pub value : second (value_at (runtime_type set) s p) ≡ value_at (variant set (get_or s p 0)) s (p + 1)

pub runtime-stands : (set : Settings) {s : List ℕ} {p : ℕ} → Placed (runtime_type set) s p → RuntimeStands set s p
unfolding runtime_type little
runtime-stands set {s} {p} h =
    let a = parts h.stands in
    let b = number-stands a.fore in
    let x : little (part s p 1) ≡ get_or s p 0 = ap little (read_take 1 s p b.room) ∙ omega arith in
    let v = b.value ∙ ap num x in
    record {
      room = b.room;
      part = record { small = h.small; stands = rw (v, b.next) at a.back };
      next = rw (v, b.next) at a.next;
      tag = ap (λ w. number (first w)) a.value ∙ ap number v;
      value = ap second a.value ∙ rw (v, b.next);
    }

module _ (set : Settings) {s : List ℕ} {p : ℕ} (h : Placed (runtime_type set) s p) where
  pub runtime-room : p + 1 ≤ length s
  runtime-room = (runtime-stands set h).room

  -- an interface
  module _ (e : get_or s p 0 ≡ 9) where
    pub runtime-table : TableIn (runtime_type set) RuntimeMethod runtime_names s p (p + 5)
    unfolding runtime_interface clear
    runtime-table =
        let r = runtime-stands set h in
        let y : Placed (runtime_interface set) s (p + 1) = rw e at r.part in
        let b = behind (sized-number.next (parts y.stands).fore) y.stands in
        let a = asked-stands (λ vs. method_set set (map method_name vs)) b.stands in
        let g = ap (λ v. entries (first (second v))) (rw e at r.value) ∙ ap (λ v. entries (first v)) b.value ∙ a.value in
        let z : p + 1 + 4 ≡ p + 5 = omega arith in
        rw (← z) (record {
          small = h.small;
          room = a.room;
          all = a.all;
          new = rw g (names-new [] _ a.passes);
          table = rw g;
          next = (rw e at r.next) ∙ b.next ∙ a.next;
        })

    pub runtime-walks : {n : ℕ} {x : ControlFlow AlikeNames ℕ} → WordIs s (p + 5) n → TableWalk RuntimeMethod n s (p + 5 + 4) x
        → WalksAt (runtime_type set) runtime_tables s p x
    unfolding pick
    runtime-walks w a = record { walks = rw (eq-eqb _ _ ((runtime-stands set h).tag ∙ e)) (table-walks runtime-table w a) }

  -- any other
  module _ (e : get_or s p 0 ≡ 9 → ⊥) where
    pub other_at : OtherAt set (get_or s p 0) s (p + 1)
    other_at = let r = runtime-stands set h in record { other = e; within = r.room; placed = r.part }

    pub other-walks : {q : ℕ} → place.Past (variant set (get_or s p 0)) s (p + 1) q
        → WalksAt (runtime_type set) runtime_tables s p (Continue q)
    unfolding pick pair_in
    other-walks w =
        let r = runtime-stands set h in
        record { walks = rw (ne_eqb _ _ (λ i. e (sym r.tag ∙ i))) (past refl (w.is ∙ sym r.next)) }
