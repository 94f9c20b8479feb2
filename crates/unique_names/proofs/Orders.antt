-- The grammar's questions on a list are those on its items one by one, each by the items before it.
use Rattle.std.proofs.Common.{ℕ, suc, ◌≡◌, refl, ap, sym, ◌∙◌, List, [], ◌∷◌, ◌++◌, map, Bool, true, false, length}
use Rattle.format.specs.Trace.{pick}
use Rattle.format.specs.Format.{Value, content, pay}
use Rattle.format.specs.Reading.{same}
use Rattle.format.proofs.LayoutTheorems.{same-eq}
use Rattle.vob24.specs.Refusals as refusals
use Rattle.vob24.specs.Questions.{refuse_if, among, blank, repeat, named, field_keys, new_names, Identity, among_identities, new_identities}
use Rattle.vob24.specs.Grammar.{identity}
use Rattle.in_place.specs.declared.Item.{Item}
use Rattle.in_place.specs.declared.Item.TheVariants.{Name, StructField, InterfaceMethod, RuntimeMethod, NamedMethod, RuntimeField}
use Rattle.in_place.specs.declared.Table.TheVariants.{Fields, Methods, Identities}
use Rattle.in_place.specs.Items.{name_of, names_of, contents}
use Rattle.in_place.specs.Tables.{key_of}
use Rattle.in_place.specs.Contract.{over}
use Rattle.repeat_search.specs.Tables.{repeats}
use Rattle.unique_names.specs.Asking.{table_asks}

pub names-map : (i : Item) (vs : List Value) → names_of i vs ≡ map (name_of i) vs
names-map Name vs = all vs
  where
    all : (vs : List Value) → vs ≡ map (λ v. v) vs
    all [] = refl
    all (v ∷ vs) = ap (λ l. v ∷ l) (all vs)
names-map StructField vs = refl
names-map InterfaceMethod vs = refl
names-map RuntimeMethod vs = refl
names-map NamedMethod vs = refl
names-map RuntimeField vs = refl

map_snoc : {A B : Type 0} (f : A → B) (l : List A) (v : A) → map f (l ++ (v ∷ [])) ≡ map f l ++ (f v ∷ [])
map_snoc f [] v = refl
map_snoc f (x ∷ l) v = ap (λ m. f x ∷ m) (map_snoc f l v)

pub map-length : {A B : Type 0} (f : A → B) (l : List A) → length (map f l) ≡ length l
map-length f [] = refl
map-length f (x ∷ l) = ap suc (map-length f l)

pub among-snoc : (x y : List ℕ) (l : List (List ℕ)) → among x (l ++ (y ∷ [])) ≡ pick (same x y) true (among x l)
unfolding among pick
among-snoc x y [] = refl
among-snoc x y (z ∷ l) = go (same x z) (same x y) (among-snoc x y l)
  where
    go : (a b : Bool) → among x (l ++ (y ∷ [])) ≡ pick b true (among x l)
        → pick a true (among x (l ++ (y ∷ []))) ≡ pick b true (pick a true (among x l))
    go true true e = refl
    go true false e = refl
    go false true e = e
    go false false e = e

pub contents-snoc : (i : Item) (x : List ℕ) (before : List Value) (v : Value)
    → among x (contents i (before ++ (v ∷ []))) ≡ pick (same x (content (name_of i v))) true (among x (contents i before))
contents-snoc i x before v = ap (among x) (map_snoc (λ v. content (name_of i v)) before v) ∙ among-snoc x (content (name_of i v)) (contents i before)

-- keys without a package are names
pub plain-keys : (k : Value → Identity) → ((v : Value) → content (k v).0 ≡ []) → (v : Value) (vs : List Value)
    → among_identities (k v) (map k vs) ≡ among (content (k v).1) (map (λ v. content (k v).1) vs)
unfolding among_identities among same pick
plain-keys k h v [] = refl
plain-keys k h v (w ∷ vs) = rw (h v, h w, plain-keys k h v vs)

-- 17: every name is looked for among all before it
abbrev Knows : Item → List (List ℕ) → List Value → Type 0
Knows i seen before = (x : List ℕ) → among x seen ≡ among x (contents i before)

names-from : (i : Item) (seen : List (List ℕ)) (before vs : List Value) → Knows i seen before
    → new_names seen (map (name_of i) vs) ≡ over (table_asks (Methods i)) before vs
unfolding over table_asks repeats new_names among pick
names-from i seen before [] k = refl
names-from i seen before (v ∷ vs) k = rw (k (content (name_of i v)), ← plain-keys (key_of (Methods i)) (λ v. refl) v before, names-from i (content (name_of i v) ∷ seen) (before ++ (v ∷ [])) vs more)
  where
    more : Knows i (content (name_of i v) ∷ seen) (before ++ (v ∷ []))
    more x = ap (λ b. pick (same x (content (name_of i v))) true b) (k x) ∙ sym (contents-snoc i x before v)

pub names-over : (i : Item) (vs : List Value) → new_names [] (map (name_of i) vs) ≡ over (table_asks (Methods i)) [] vs
names-over i vs = names-from i [] [] vs (λ x. refl)

-- 16: a name other than "_" is looked for among all before it, for "_" is none of them
abbrev KnowsNamed : List (List ℕ) → List Value → Type 0
KnowsNamed seen before = (x : List ℕ) → same x (95 ∷ []) ≡ false → among x seen ≡ among x (contents StructField before)

keys_from : (seen : List (List ℕ)) (before vs : List Value) → KnowsNamed seen before
    → field_keys seen (named (map (name_of StructField) vs)) ≡ over (table_asks Fields) before vs
unfolding over table_asks repeats field_keys named among pick
keys_from seen before [] k = refl
keys_from seen before (v ∷ vs) k = go (blank (name_of StructField v)) refl
    (λ e. keys_from seen (before ++ (v ∷ [])) vs (skip e))
    (λ e. keys_from (content (name_of StructField v) ∷ seen) (before ++ (v ∷ [])) vs (keep e))
  where
    skip : blank (name_of StructField v) ≡ true → KnowsNamed seen (before ++ (v ∷ []))
    skip e x j =
        let c : content (name_of StructField v) ≡ 95 ∷ [] = same-eq (content (name_of StructField v)) (95 ∷ []) (rw e tt) in
        let o : same x (content (name_of StructField v)) ≡ false = rw c j in
        k x j ∙ sym (contents-snoc StructField x before v ∙ rw o)

    keep : blank (name_of StructField v) ≡ false
        → KnowsNamed (content (name_of StructField v) ∷ seen) (before ++ (v ∷ []))
    keep e x j = ap (λ b. pick (same x (content (name_of StructField v))) true b) (k x j) ∙ sym (contents-snoc StructField x before v)

    go : (b : Bool) → blank (name_of StructField v) ≡ b
        → (blank (name_of StructField v) ≡ true → field_keys seen (named (map (name_of StructField) vs)) ≡ over (table_asks Fields) (before ++ (v ∷ [])) vs)
        → (blank (name_of StructField v) ≡ false → field_keys (content (name_of StructField v) ∷ seen) (named (map (name_of StructField) vs)) ≡ over (table_asks Fields) (before ++ (v ∷ [])) vs)
        → field_keys seen (pick b (named (map (name_of StructField) vs)) (name_of StructField v ∷ named (map (name_of StructField) vs)))
        ≡ (pick b [] (pay refusals.struct_field_key (length (content (name_of StructField v))) ∷ []) ++ refuse_if (pick b false (among_identities (key_of Fields v) (map (key_of Fields) before))) (repeat refusals.duplicate_struct_field 0 (name_of StructField v))) ++ over (table_asks Fields) (before ++ (v ∷ [])) vs
    go true e o u = o e
    go false e o u = rw (k (content (name_of StructField v)) e, ← plain-keys (key_of Fields) (λ v. refl) v before, u e)

pub keys-over : (vs : List Value) → field_keys [] (named (map (name_of StructField) vs)) ≡ over (table_asks Fields) [] vs
keys-over vs = keys_from [] [] vs (λ x e. refl)

-- 19: the same of a package and a name
abbrev KnowsIdentities : List Identity → List Value → Type 0
KnowsIdentities seen before = (x : Identity) → blank x.1 ≡ false → among_identities x seen ≡ among_identities x (map identity before)

identities-snoc : (x y : Identity) (l : List Identity) → among_identities x (l ++ (y ∷ [])) ≡ among_identities x (y ∷ l)
unfolding among_identities pick
identities-snoc x y [] = refl
identities-snoc x y (z ∷ l) = go (same (content x.1) (content z.1)) (same (content x.0) (content z.0)) (same (content x.1) (content y.1)) (same (content x.0) (content y.0)) (identities-snoc x y l)
  where
    go : (a b c d : Bool)
        → among_identities x (l ++ (y ∷ [])) ≡ pick c (pick d true (among_identities x l)) (among_identities x l)
        → pick a (pick b true (among_identities x (l ++ (y ∷ [])))) (among_identities x (l ++ (y ∷ [])))
        ≡ pick c (pick d true (pick a (pick b true (among_identities x l)) (among_identities x l))) (pick a (pick b true (among_identities x l)) (among_identities x l))
    go true true true true e = refl
    go true true true false e = refl
    go true true false d e = refl
    go true false true true e = e
    go true false true false e = e
    go true false false d e = e
    go false b true true e = e
    go false b true false e = e
    go false b false d e = e

identities-from : (seen : List Identity) (before vs : List Value) → KnowsIdentities seen before
    → new_identities seen (map identity vs) ≡ over (table_asks Identities) before vs
unfolding over table_asks repeats new_identities among_identities pick
identities-from seen before [] k = refl
identities-from seen before (v ∷ vs) k = go (blank (identity v).1) refl
    (λ e. identities-from seen (before ++ (v ∷ [])) vs (skip e))
    (λ e. identities-from (identity v ∷ seen) (before ++ (v ∷ [])) vs (keep e))
  where
    snoc : (x : Identity)
        → among_identities x (map identity (before ++ (v ∷ []))) ≡ among_identities x (identity v ∷ map identity before)
    snoc x = ap (among_identities x) (map_snoc identity before v) ∙ identities-snoc x (identity v) (map identity before)

    skip : blank (identity v).1 ≡ true → KnowsIdentities seen (before ++ (v ∷ []))
    skip e x j =
        let c : content (identity v).1 ≡ 95 ∷ [] = same-eq (content (identity v).1) (95 ∷ []) (rw e tt) in
        let o : same (content x.1) (content (identity v).1) ≡ false = rw c j in
        k x j ∙ sym (snoc x ∙ rw o)

    keep : blank (identity v).1 ≡ false → KnowsIdentities (identity v ∷ seen) (before ++ (v ∷ []))
    keep e x j = ap (λ b. pick (same (content x.1) (content (identity v).1)) (pick (same (content x.0) (content (identity v).0)) true b) b) (k x j) ∙ sym (snoc x)

    go : (b : Bool) → blank (identity v).1 ≡ b
        → (blank (identity v).1 ≡ true → new_identities seen (map identity vs) ≡ over (table_asks Identities) (before ++ (v ∷ [])) vs)
        → (blank (identity v).1 ≡ false → new_identities (identity v ∷ seen) (map identity vs) ≡ over (table_asks Identities) (before ++ (v ∷ [])) vs)
        → refuse_if (pick b false (among_identities (identity v) seen)) (repeat refusals.duplicate_runtime_struct_field (Rattle.format.specs.Format.start (identity v).0) (identity v).1) ++ new_identities (pick b seen (identity v ∷ seen)) (map identity vs)
        ≡ refuse_if (pick b false (among_identities (identity v) (map identity before))) (repeat refusals.duplicate_runtime_struct_field (Rattle.format.specs.Format.start (identity v).0) (identity v).1) ++ over (table_asks Identities) (before ++ (v ∷ [])) vs
    go true e o u = o e
    go false e o u = rw (k (identity v) e, u e)

pub identities-over : (vs : List Value) → new_identities [] (map identity vs) ≡ over (table_asks Identities) [] vs
identities-over vs = identities-from [] [] vs (λ x e. refl)
