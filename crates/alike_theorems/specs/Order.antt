-- The names of a pack's tables stand in the file in the order of the tables.
use Rattle.std.specs.Prelude.{ℕ, ◌+◌, ◌≤◌, ◌<◌, ◌≡◌, refl, Bool, length, T, eqb}
use Rattle.std.proofs.Common.{ap, ◌∙◌, arith}
use Rattle.std.proofs.Math.Path.{sym}
use mathlib.Core.List.{List, [], ◌∷◌, ◌++◌, append_assoc, append-nil, map, map-id, flat_map, flatten, Memᴰ}
use Rattle.std.proofs.Math.Bool.{true, false}
use Rattle.format.specs.Trace.{pick, Ends}
use Rattle.format.specs.Format.{Value, number, start, content, Rule, string, count, Format, leaf, seq, chain, entries}
use Rattle.format.specs.Reading.{little, part, trace}
use Rattle.format.specs.TraceTheorems.{Passed}
use Rattle.format.proofs.TraceTheorems.{part_length, leaf-ends}
use Rattle.vob24.specs.Utf8.{well_formed}
use Rattle.vob24.specs.Settings.{Settings}
use Rattle.vob24.specs.Leaves.{list_of}
use Rattle.vob24.specs.Fields.{variant_of, new_method_of, runtime_interface_of}
use Rattle.vob24.specs.Questions.{named, blank}
use Rattle.vob24.specs.Grammar.{field_name, method_name, also_seen, struct_field, interface_method, method, new_method, runtime_method, struct, interface, methods, named_type, runtime_interface, runtime_variants, runtime_type, section, sections, pack}
use Rattle.vob24.specs.Cost.{part_of}
use Rattle.alike.specs.Alike.{field_table, interface_tables, method_table, interface_tag, runtime_tables, tables}
use Rattle.alike_theorems.specs.Collected.{Joined, Collects, in-equal, in-none, in-first, in-second, in_both, in_list, in-list_of, in_variant}

-- the place past a name
abbrev pub name_end : Value → ℕ
name_end v = start v + length (content v)

-- A name in the file s between p and q: behind its length word, with its bytes where it says, which are well-formed.
pub record Lies (s : List ℕ) (p : ℕ) (v : Value) (q : ℕ) : Type 0 where
  pub from : p + 4 ≤ start v
  pub to : name_end v ≤ q
  pub bytes : part s (start v) (length (content v)) ≡ content v
  pub text : well_formed (content v) ≡ true

-- Names in the file s from p to q, each behind the one before it.
pub data InOrder (s : List ℕ) : ℕ → List Value → ℕ → Type 0 where
  done : {p q : ℕ} → p ≤ q → InOrder s p [] q
  next : {p m q : ℕ} {v : Value} {vs : List Value} → Lies s p v m → InOrder s m vs q → InOrder s p (v ∷ vs) q

module _ {s : List ℕ} where
  lies_within : {p q r m : ℕ} {v : Value} → p ≤ r → Lies s r v m → m ≤ q → Lies s p v q
  lies_within i h j = record { from = omega (arith, h.from); to = omega (arith, h.to); bytes = h.bytes; text = h.text }

  order_from : {p r q : ℕ} {vs : List Value} → p ≤ r → InOrder s r vs q → InOrder s p vs q
  order_from {p} {r} {q} h (done i) = let j : p ≤ q = omega arith in done j
  order_from h (next {m} i o) = let j : m ≤ m = omega arith in next (lies_within h i j) o

  order-to : {p r q : ℕ} {vs : List Value} → InOrder s p vs r → r ≤ q → InOrder s p vs q
  order-to {p} {r} {q} (done i) h = let j : p ≤ q = omega arith in done j
  order-to (next i o) h = next i (order-to o h)

  order-append : {p m q : ℕ} {vs ws : List Value} → InOrder s p vs m → InOrder s m ws q → InOrder s p (vs ++ ws) q
  order-append (done h) o = order_from h o
  order-append (next h k) o = next h (order-append k o)

  -- of the names those other than "_"
  order-named : {p q : ℕ} {vs : List Value} → InOrder s p vs q → InOrder s p (named vs) q
  unfolding named pick
  order-named (done h) = done h
  order-named (next {p} {m} {q} {v} {vs} h o) = go (blank v) (order-named o)
    where
      go : (d : Bool) → InOrder s m (named vs) q → InOrder s p (pick d (named vs) (v ∷ named vs)) q
      go true k = order_from (omega (arith, h.from, h.to)) k
      go false k = next h k

-- ---- what follows of the order

-- Of two names one ends before the other starts, or they are one.
pub data Apart (x y : Value) : Type 0 where
  equal : x ≡ y → Apart x y
  before : name_end x < start y → Apart x y
  behind : name_end y < start x → Apart x y

module _ {s : List ℕ} where
  order-within : {p q : ℕ} {vs : List Value} → InOrder s p vs q → p ≤ q
  order-within (done h) = h
  order-within (next h o) = omega (arith, h.from, h.to, order-within o)

  pub order-split : {p q : ℕ} (vs : List Value) {ws : List Value} → InOrder s p (vs ++ ws) q
      → (m : ℕ) × InOrder s p vs m × InOrder s m ws q
  order-split {p} [] o = let h : p ≤ p = omega arith in (p, done h, o)
  order-split (v ∷ vs) (next h o) = let r = order-split vs o in (r.0, next h r.1, r.2)

  pub order-lies : {p q : ℕ} {v : Value} {vs : List Value} → InOrder s p vs q → Memᴰ v vs → Lies s p v q
  order-lies (next {p} h o) (Memᴰ.head e) = let i : p ≤ p = omega arith in rw e (lies_within i h (order-within o))
  order-lies (next {p} {m} {q} h o) (Memᴰ.tail k) =
      let i : p ≤ m = omega (arith, h.from, h.to) in
      let j : q ≤ q = omega arith in
      lies_within i (order-lies o k) j
  order-lies (done _) k = elim k [ ]

  pub apart : {p q : ℕ} {x y : Value} {vs : List Value} → InOrder s p vs q → Memᴰ x vs → Memᴰ y vs → Apart x y
  apart (next h o) (Memᴰ.head e) (Memᴰ.head d) = equal (e ∙ sym d)
  apart (next h o) (Memᴰ.head e) (Memᴰ.tail k) = before (rw e (omega (arith, h.to, (order-lies o k).from)))
  apart (next h o) (Memᴰ.tail k) (Memᴰ.head e) = behind (rw e (omega (arith, h.to, (order-lies o k).from)))
  apart (next h o) (Memᴰ.tail j) (Memᴰ.tail k) = apart o j k
  apart (done _) j _ = elim j [ ]

-- ---- the names of what a format reads

-- What f reads has these names, in order between its start and its end.
abbrev HasNames : Format → (Value → List Value) → Type 0
HasNames f names = Collects InOrder f names

ordered : Joined InOrder
ordered = record { nothing = done; wider = order_from; longer = order-to; append = order-append }

holds : (d : Bool) → T d → d ≡ true
holds true t = refl
holds false t = elim t [ ]

one_name : {r : Rule} {c : ℕ} → HasNames (leaf (string r c well_formed)) (λ v. v ∷ [])
unfolding trace
one_name {r} {c} = record {
  has = λ s p {v} {q} h. let e : q ≤ q = omega arith in next (go s p (leaf-ends (string r c well_formed) s p h)) (done e);
}
  where
    go : (s : List ℕ) (p : ℕ) {v : Value} {q : ℕ} → Passed (string r c well_formed) s p v q → Lies s p v q
    go s p h =
        let e = part_length s (p + 4) (little (part s p 4)) h.0 in
        let w = holds (well_formed (part s (p + 4) (little (part s p 4)))) h.2 in
        rw (h.3, h.4) (record { from = omega arith; to = omega arith; bytes = ap (part s (p + 4)) e; text = w })

in-named : {f : Format} {N : Value → List Value} → HasNames f N → HasNames f (λ v. named (N v))
in-named a = record { has = λ s p h. order-named (a.has s p h) }

-- ---- lists of lists, joined

pub flat_map-one : {A : Type 0} (h : Value → A) (l : List Value) → flat_map (λ v. h v ∷ []) l ≡ map h l
unfolding flat_map
flat_map-one h [] = refl
flat_map-one h (v ∷ vs) = ap (λ l. h v ∷ l) (flat_map-one h vs)

flatten-append : (a b : List (List Value)) → flatten (a ++ b) ≡ flatten a ++ flatten b
unfolding flatten
flatten-append [] b = refl
flatten-append (t ∷ a) b = ap (λ l. t ++ l) (flatten-append a b) ∙ sym (append_assoc t (flatten a) (flatten b))

flatten-map : (h : Value → List Value) (l : List Value) → flatten (map h l) ≡ flat_map h l
unfolding flatten flat_map
flatten-map h [] = refl
flatten-map h (v ∷ vs) = ap (λ l. h v ++ l) (flatten-map h vs)

flatten-flat_map : (h : Value → List (List Value)) (l : List Value)
    → flatten (flat_map h l) ≡ flat_map (λ v. flatten (h v)) l
unfolding flatten flat_map
flatten-flat_map h [] = refl
flatten-flat_map h (v ∷ vs) = flatten-append (h v) (flat_map h vs) ∙ ap (λ l. flatten (h v) ++ l) (flatten-flat_map h vs)

flatten-pick : (d : Bool) (t : List Value) → flatten (pick d (t ∷ []) []) ≡ pick d t []
unfolding flatten pick
flatten-pick true t = append-nil t
flatten-pick false t = refl

-- ---- the tables of the grammar

-- a table: a list whose items have one name each
in_table : {S : Type 0} (f : S → Format) (u : S → Value → S) (h : Value → Value)
    → ((x : S) → HasNames (f x) (λ v. h v ∷ [])) → (r : Rule) (m c z : ℕ) (x : S)
    → HasNames (seq (leaf (count r m c z)) (λ n. chain f u x (number n))) (λ v. map h (entries v))
in_table f u h each r m c z x = in-equal (λ v. flat_map-one h (entries v)) (in_list ordered f u each r m c z x)

in-table_of : {f : Format} (h : Value → Value) → HasNames f (λ v. h v ∷ []) → (r : Rule) (z : ℕ)
    → HasNames (list_of r z f) (λ v. map h (entries v))
in-table_of h a r z = in-equal (λ v. flat_map-one h (entries v)) (in-list_of ordered a r z)

module _ (set : Settings) where
  in_struct : HasNames (struct set) field_table
  unfolding struct struct_field
  in_struct = in-second ordered (λ _. in-first ordered (in-named (in-table_of field_name (in-first ordered one_name) _ _)))

  in-interface : HasNames (interface set) (λ v. flatten (interface_tables v))
  unfolding interface interface_method flatten
  in-interface =
      in-second ordered (λ _.
      in_both ordered (in-equal (λ v. map-id (entries v)) (in-table_of (λ v. v) one_name _ _)) (λ _.
      in_both ordered (in-table_of method_name (in-first ordered one_name) _ _) (λ _. in-none ordered _)))

  in-named_type : HasNames (named_type set) method_table
  unfolding named_type methods new_method method
  in-named_type =
      let name_of : Value → Value = λ m. method_name (new_method_of m).method in
      in-second ordered (λ _. in-second ordered (λ _. in-second ordered (λ _.
      in_table new_method also_seen name_of (λ _. in-first ordered (in-first ordered one_name)) _ _ _ _ [])))

  in-runtime_interface : HasNames (runtime_interface set) (λ v. map method_name (entries (runtime_interface_of v).methods))
  unfolding runtime_interface runtime_method
  in-runtime_interface = in-second ordered (λ _. in-first ordered (in-table_of method_name (in-first ordered one_name) _ _))

  in-runtime_type : HasNames (runtime_type set) (λ v. flatten (runtime_tables v))
  unfolding runtime_type
  in-runtime_type =
      in-equal (λ v. sym (flatten-pick (eqb (number (variant_of v).tag) interface_tag) _))
      (in_variant ordered _ (runtime_variants set) interface_tag in-runtime_interface)

  in-pack : HasNames (pack set) (λ v. flatten (tables v))
  unfolding pack sections section part_of tables
  in-pack =
      in-equal (λ v. sym (simp (flatten-append, flatten-map, flatten-flat_map)))
      (in-second ordered (λ _. in-second ordered (λ _. in-second ordered (λ _.
      in_both ordered (in-list_of ordered in_struct _ _) (λ _.
      in_both ordered (in-list_of ordered in-interface _ _) (λ _.
      in_both ordered (in-list_of ordered in-named_type _ _) (λ _.
      in-second ordered (λ _. in-first ordered (in-list_of ordered in-runtime_type _ _)))))))))

  -- The names of all tables of a pack that is read, one table after the other.
  pub names-in-order : (s : List ℕ) {v : Value} {q : ℕ} → Ends (trace (pack set) s 0) v q
      → InOrder s 0 (flatten (tables v)) q
  names-in-order s h = in-pack.has s 0 h
