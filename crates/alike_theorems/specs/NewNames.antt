-- "Reading itself goes on comparing bytes": in a pack that is read no name of a table has the bytes of one before it.
use Rattle.std.specs.Prelude.{ℕ, suc, zero, ◌≡◌, refl, Bool, true, false, T}
use Rattle.std.proofs.Common.{ap, sym, ◌∙◌, ⊎_elim, arith}
use mathlib.Core.List.Memᴰ
use mathlib.Core.List.{List, [], ◌∷◌, ◌++◌, map, Memᴰ}
use Rattle.format.specs.Trace.{Wrong, pick, Ends}
use Rattle.format.specs.Format.{Value, content, first, Ask, Format, ask, leaf, chain, items, entries}
use Rattle.format.specs.Reading.{same, trace_leaf, trace}
use Rattle.format.specs.Layout.{clear}
use Rattle.format.proofs.TraceTheorems.{ask-ends, seq-ends}
use Rattle.vob24.specs.Refusals.{duplicate_named_method}
use Rattle.vob24.specs.Settings.{Settings}
use Rattle.vob24.specs.Fields.{new_method_of, runtime_interface_of}
use Rattle.vob24.specs.Questions.{refuse_if, among, repeat, field_keys, new_names}
use Rattle.vob24.specs.Grammar.{method, method_name, new_method, also_seen, asking, struct, interface, methods, named_type, runtime_interface, runtime_variants, runtime_type, section, sections, pack}
use Rattle.vob24.specs.Cost.{part_of}
use Rattle.alike.specs.Alike.{field_table, interface_tables, method_table, interface_tag, runtime_tables, tables}
use Rattle.alike_theorems.specs.Folds.{same_true}
use Rattle.alike_theorems.specs.Collected.{Joined, Collects, in-equal, in-first, in-second, in_both, in-list_of, in_variant}
use Rattle.alike_theorems.specs.Order.{flat_map-one}
use Rattle.alike_theorems.specs.Pairs.{Before, at_head, in_rest, PairOf, here, later}

-- No name repeats one before it, or one of these.
pub data AllNew : List (List ℕ) → List Value → Type 0 where
  done : {seen : List (List ℕ)} → AllNew seen []
  also : {seen : List (List ℕ)} {v : Value} {vs : List Value} → among (content v) seen ≡ false
      → AllNew (content v ∷ seen) vs → AllNew seen (v ∷ vs)

-- Of each table the names are new.
pub data EachNew : List (List Value) → Type 0 where
  no_table : EachNew []
  table : {t : List Value} {ts : List (List Value)} → AllNew [] t → EachNew ts → EachNew (t ∷ ts)

each_append : {ts us : List (List Value)} → EachNew ts → EachNew us → EachNew (ts ++ us)
each_append no_table b = b
each_append (table n a) b = table n (each_append a b)

-- ---- names are new where the questions on them were passed

-- a refusal that was not given, and with questions behind it
pub not-refused : (d : Bool) (w : Wrong) → T (clear (refuse_if d w)) → d ≡ false
unfolding clear pick
not-refused true w h = absurd h
not-refused false w h = refl

passed-no : (d : Bool) (w : Wrong) (l : List Ask) → T (clear (refuse_if d w ++ l)) → (d ≡ false) × T (clear l)
unfolding clear pick
passed-no true w l h = absurd h
passed-no false w l h = (refl, h)

pub keys-new : (seen : List (List ℕ)) (vs : List Value) → T (clear (field_keys seen vs)) → AllNew seen vs
unfolding field_keys clear
keys-new seen [] h = done
keys-new seen (v ∷ vs) h = let a = passed-no _ _ _ h in also a.0 (keys-new (content v ∷ seen) vs a.1)

pub names-new : (seen : List (List ℕ)) (vs : List Value) → T (clear (new_names seen vs)) → AllNew seen vs
unfolding new_names clear
names-new seen [] h = done
names-new seen (v ∷ vs) h = let a = passed-no _ _ _ h in also a.0 (names-new (content v ∷ seen) vs a.1)

-- the methods of a named type, each with its question behind it
abbrev question : List (List ℕ) → Value → List Ask
question seen v = refuse_if (among (content (method_name v)) seen) (repeat duplicate_named_method 0 (method_name v))

method-new : (seen : List (List ℕ)) (s : List ℕ) (p : ℕ) {w : Value} {q : ℕ} → Ends (trace (new_method seen) s p) w q
    → among (content (method_name (first w))) seen ≡ false
unfolding new_method trace trace_leaf
method-new seen s p {w} h =
    let b = seq-ends method (λ v. leaf (ask (question seen v))) s p h in
    not-refused _ _ (ask-ends (question seen (first w)) b.mid b.back).0

pub methods-new : (seen : List (List ℕ)) (n : ℕ) (s : List ℕ) (p : ℕ) {v : Value} {q : ℕ}
    → Ends (trace (chain new_method also_seen seen n) s p) v q
    → AllNew seen (map (λ m. method_name (new_method_of m).method) (items n v))
unfolding chain items
methods-new seen zero s p h = done
methods-new seen (suc n) s p {v} h =
    let b = seq-ends (new_method seen) (λ w. chain new_method also_seen (also_seen seen w) n) s p h in
    also (method-new seen s p b.fore) (methods-new (also_seen seen (first v)) n s b.mid b.back)

-- ---- the tables of the grammar

abbrev HasNew : Format → (Value → List (List Value)) → Type 0
HasNew f ts = Collects (λ s p l q. EachNew l) f ts

new : Joined (λ s p l q. EachNew l)
new = record { nothing = λ h. no_table; wider = λ h a. a; longer = λ a h. a; append = each_append }

-- questions, and what is new where they were passed
asked : (l : List Ask) (ts : List (List Value)) → (T (clear l) → EachNew ts) → HasNew (asking l) (λ _. ts)
unfolding trace trace_leaf
asked l ts a = record { has = λ s p h. a (ask-ends l p h).0 }

module _ (set : Settings) where
  new-struct : HasNew (struct set) (λ v. field_table v ∷ [])
  unfolding struct clear
  new-struct = in-second new (λ _. in-second new (λ fields. asked _ _ (λ h. table (keys-new [] _ h) no_table)))

  new-interface : HasNew (interface set) interface_tables
  unfolding interface clear
  new-interface =
      in-second new (λ _. in-second new (λ names. in-second new (λ ms.
      in_both new (asked _ (entries names ∷ []) (λ h. table (names-new [] _ h) no_table)) (λ _.
      asked _ (map method_name (entries ms) ∷ []) (λ h. table (names-new [] _ h) no_table)))))

  new-named_type : HasNew (named_type set) (λ v. method_table v ∷ [])
  unfolding named_type methods
  new-named_type = in-second new (λ _. in-second new (λ _. in-second new (λ _. in-second new (λ n. record {
    has = λ s p h. table (methods-new [] _ s p h) no_table;
  }))))

  new-runtime_interface : HasNew (runtime_interface set) (λ v. map method_name (entries (runtime_interface_of v).methods) ∷ [])
  unfolding runtime_interface clear
  new-runtime_interface = in-second new (λ _. in-second new (λ ms. asked _ _ (λ h. table (names-new [] _ h) no_table)))

  new-runtime_type : HasNew (runtime_type set) runtime_tables
  unfolding runtime_type
  new-runtime_type = in_variant new _ (runtime_variants set) interface_tag new-runtime_interface

  new-pack : HasNew (pack set) tables
  unfolding pack sections section part_of tables
  new-pack =
      in-equal (λ v. simp flat_map-one)
      (in-second new (λ _. in-second new (λ _. in-second new (λ _.
      in_both new (in-list_of new new-struct _ _) (λ _.
      in_both new (in-list_of new new-interface _ _) (λ _.
      in_both new (in-list_of new new-named_type _ _) (λ _.
      in-second new (λ _. in-first new (in-list_of new new-runtime_type _ _)))))))))

  pub tables-new : (s : List ℕ) {v : Value} {q : ℕ} → Ends (trace (pack set) s 0) v q → EachNew (tables v)
  tables-new s h = new-pack.has s 0 h

-- ---- so the names of a pair differ

among_there : (x : List ℕ) (l : List (List ℕ)) → Memᴰ x l → among x l ≡ false → ⊥
unfolding among pick
among_there x [] m h = Memᴰ.not-nil m
among_there x (y ∷ l) m h =
    ⊎_elim (λ e. by-head (same x y) (same_true x y e) h) (λ k. by-rest (same x y) (among_there x l k) h) (Memᴰ.cases_cons m)
  where
    by-head : (d : Bool) → d ≡ true → pick d true (among x l) ≡ false → ⊥
    by-head d t h = let no : ◌≡◌ {A = ℕ} 0 1 = cc in omega arith

    by-rest : (d : Bool) → (among x l ≡ false → ⊥) → pick d true (among x l) ≡ false → ⊥
    by-rest true n h = let no : ◌≡◌ {A = ℕ} 0 1 = cc in omega arith
    by-rest false n h = n h

new-unseen : {seen : List (List ℕ)} {vs : List Value} {y : Value} → AllNew seen vs → Memᴰ y vs
    → Memᴰ (content y) seen → ⊥
new-unseen (also n a) (Memᴰ.head e) k = among_there _ _ k (rw e n)
new-unseen (also n a) (Memᴰ.tail m) k = new-unseen a m (Memᴰ.tail k)
new-unseen done m k = elim m [ ]

before-differ : {seen : List (List ℕ)} {t : List Value} {x y : Value} → AllNew seen t → Before t x y
    → content x ≡ content y → ⊥
before-differ (also n a) (at_head e m) h = new-unseen a m (Memᴰ.head (sym h ∙ ap content e))
before-differ (also n a) (in_rest h) e = before-differ a h e
before-differ done b e = elim b [ ]

pub pair-differ : {ts : List (List Value)} {x y : Value} → EachNew ts → PairOf ts x y → content x ≡ content y → ⊥
pair-differ (table n a) (here h k) e = before-differ n h e
pair-differ (table n a) (later h) e = pair-differ a h e
pair-differ no_table h e = elim h [ ]
