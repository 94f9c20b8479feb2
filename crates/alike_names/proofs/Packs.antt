-- The laws of the walk over a pack, section by section.
use Rattle.std.proofs.Common.{ℕ, ◌+◌, ◌≤◌, ◌≡◌, refl, ap, sym, ◌∙◌, List, [], ◌∷◌, ◌++◌, map, length, ControlFlow, Continue, Break}
use mathlib.Core.List.{flat_map}
use Rattle.format.specs.Format.{Value, first, second, Format, seq, ◌▸◌, counted}
use Rattle.vob24.specs.Settings.{Settings, StructMeta, InterfaceMeta, NamedTypeMeta, RuntimeType}
use Rattle.vob24.specs.Grammar.{list, struct, interface, named_type, runtime_type, section, itabs, well_known, constants, globals, functions, after_functions, sections, pack}
use Rattle.vob24.specs.Cost.{part_of}
use Rattle.alike.specs.Alike.{field_table, interface_tables, method_table, runtime_tables, tables, or_else, pair_in, shown}
use Rattle.in_place.specs.Walk.{value_at, next_at, parts, passed}
use Rattle.in_place.specs.Items.{end_of}
use Rattle.in_place.specs.Contract as place
use Rattle.in_place.specs.Contract.{WordIs, Placed}
use Rattle.alike_names.specs.Contract.{Walks, found, past}
use Rattle.alike_names.specs.Tables.{struct_tables, named_tables, tables_in, WalksAt, PackWalk}
use Rattle.alike_names.specs.declared.AlikeNames.{AlikeNames}
use Rattle.alike_names.proofs.Lists.{behind}
use Rattle.alike_names.proofs.Pairs.{pair-first, pair-append}

-- ---- the tables of the sections from one of them on, by the value of these sections

abbrev from_runtime_types : Value → List (List Value)
from_runtime_types v = tables_in runtime_tables (first v)

abbrev from_itabs : Value → List (List Value)
from_itabs v = from_runtime_types (second v)

abbrev from_named_types : Value → List (List Value)
from_named_types v = tables_in named_tables (first v) ++ from_itabs (second v)

abbrev from_interfaces : Value → List (List Value)
from_interfaces v = tables_in interface_tables (first v) ++ from_named_types (second v)

abbrev from_structs : Value → List (List Value)
from_structs v = tables_in struct_tables (first v) ++ from_interfaces (second v)

map-flat : {A B : Type 0} (f : A → B) (xs : List A) → map f xs ≡ flat_map (λ x. f x ∷ []) xs
unfolding flat_map
map-flat f [] = refl
map-flat f (x ∷ xs) = ap (λ l. f x ∷ l) (map-flat f xs)

-- magic, version and name stand before them
tables-from : (v : Value) → tables v ≡ from_structs (second (second (second v)))
unfolding tables part_of
tables-from v = rw (map-flat field_table, map-flat method_table)

-- ---- the walk has come to p, where an f stands; ts are the tables that are left

pub record Reached (set : Settings) (f : Format) (ts : Value → List (List Value)) (s : List ℕ) (p : ℕ) : Type 0 where
  pub placed : Placed f s p
  pub leads : pair_in (tables (value_at (pack set) s 0)) ≡ pair_in (ts (value_at f s p))

module _ {set : Settings} {g h : Format} {s : List ℕ} {p : ℕ} where
  pub reached-here : {ts : Value → List (List Value)} → Reached set (g ▸ h) ts s p → Placed g s p
  reached-here r = record { small = r.placed.small; stands = (parts r.placed.stands).fore }

  -- a section without tables
  pub reached-skip : (us : Value → List (List Value)) {q : ℕ} → Reached set (g ▸ h) (λ v. us (second v)) s p
      → place.Past g s p q → Reached set h us s q
  reached-skip us r w =
      let b = behind (sym w.is) r.placed.stands in
      record { placed = record { small = r.placed.small; stands = b.stands }; leads = r.leads ∙ ap (λ v. pair_in (us v)) b.value }

  module _ (ts us : Value → List (List Value)) (r : Reached set (g ▸ h) (λ v. ts (first v) ++ us (second v)) s p) {x : ControlFlow AlikeNames ℕ} (a : WalksAt g ts s p x) where
    reached-leads : pair_in (tables (value_at (pack set) s 0)) ≡ or_else (pair_in (ts (value_at g s p))) (pair_in (us (second (value_at (g ▸ h) s p))))
    reached-leads =
        let e = ap first (parts r.placed.stands).value in
        r.leads ∙ pair-append _ _ ∙ ap (λ v. or_else (pair_in (ts v)) (pair_in (us (second (value_at (g ▸ h) s p))))) e

    pub reached-found : {y : AlikeNames} → x ≡ Break y → PackWalk set s (Break y)
    reached-found {y} e = record { end = next_at g s p; walks = go (rw e at a.walks) }
      where
        go : Walks (ts (value_at g s p)) (next_at g s p) (Break y)
            → Walks (tables (value_at (pack set) s 0)) (next_at g s p) (Break y)
        go (found i) = found (ap shown reached-leads ∙ pair-first (pair_in (ts (value_at g s p))) _ i)

    pub reached-past : {q : ℕ} → x ≡ Continue q → Reached set h us s q
    reached-past {q} e = go (rw e at a.walks)
      where
        go : Walks (ts (value_at g s p)) (next_at g s p) (Continue q) → Reached set h us s q
        go (past i j) =
            let b = behind (sym j) r.placed.stands in
            record {
              placed = record { small = r.placed.small; stands = b.stands };
              leads = reached-leads ∙ ap (λ y. or_else y (pair_in (us (second (value_at (g ▸ h) s p))))) i ∙ ap (λ v. pair_in (us v)) b.value;
            }

  pub reached-last : (ts : Value → List (List Value)) {x : ControlFlow AlikeNames ℕ} → Reached set (g ▸ h) (λ v. ts (first v)) s p
      → WalksAt g ts s p x → PackWalk set s x
  reached-last ts {x} r a = record { end = next_at g s p; walks = go a.walks }
    where
      leads : pair_in (tables (value_at (pack set) s 0)) ≡ pair_in (ts (value_at g s p))
      leads = r.leads ∙ ap (λ v. pair_in (ts (first v))) (parts r.placed.stands).value

      go : {y : ControlFlow AlikeNames ℕ} → Walks (ts (value_at g s p)) (next_at g s p) y
          → Walks (tables (value_at (pack set) s 0)) (next_at g s p) y
      go (found i) = found (ap shown leads ∙ i)
      go (past i j) = past (leads ∙ i) j

-- ---- the sections in turn, each with those behind it

module _ (set : Settings) where
  abbrev at_runtime_types : Format
  at_runtime_types =
      list set RuntimeType (runtime_type set) ▸ section set 0 well_known ▸ section set 0 constants ▸ section set 0 globals
      ▸ seq (section set 0 functions) (λ v. after_functions set (counted v))

  abbrev at_itabs : Format
  at_itabs = section set 0 itabs ▸ at_runtime_types

  abbrev at_named_types : Format
  at_named_types = list set NamedTypeMeta (named_type set) ▸ at_itabs

  abbrev at_interfaces : Format
  at_interfaces = list set InterfaceMeta (interface set) ▸ at_named_types

  abbrev at_structs : Format
  at_structs = list set StructMeta (struct set) ▸ at_interfaces

module _ (set : Settings) {s : List ℕ} (h : Placed (pack set) s 0) where
  pack-stands : (end_of s 7 ≤ length s) × Reached set (at_structs set) from_structs s (end_of s 7)
  unfolding pack sections section
  pack-stands =
      let a = behind (passed (parts h.stands).fore).3 h.stands in
      let b = behind (passed (parts a.stands).fore).3 a.stands in
      let x = passed (parts b.stands).fore in
      let c = behind x.4 b.stands in
      let e = ap (λ v. second (second v)) a.value ∙ ap second b.value ∙ c.value in
      (x.0, record { placed = record { small = h.small; stands = c.stands }; leads = ap pair_in (tables-from _) ∙ ap (λ v. pair_in (from_structs v)) e })

  pub pack-name : end_of s 7 ≤ length s
  pack-name = pack-stands.0

  module _ {m : ℕ} (w : WordIs s 7 m) where
    pub at-structs : Reached set (at_structs set) from_structs s (11 + m)
    at-structs = rw w.is pack-stands.1

    module _ {x : ControlFlow AlikeNames ℕ} (a : WalksAt (list set StructMeta (struct set)) (tables_in struct_tables) s (11 + m) x) where
      pub in-structs : {y : AlikeNames} → x ≡ Break y → PackWalk set s (Break y)
      in-structs = reached-found (tables_in struct_tables) from_interfaces at-structs a

      module _ {p : ℕ} (e : x ≡ Continue p) where
        pub at-interfaces : Reached set (at_interfaces set) from_interfaces s p
        at-interfaces = reached-past (tables_in struct_tables) from_interfaces at-structs a e

        module _ {x₂ : ControlFlow AlikeNames ℕ} (a₂ : WalksAt (list set InterfaceMeta (interface set)) (tables_in interface_tables) s p x₂) where
          pub in-interfaces : {y : AlikeNames} → x₂ ≡ Break y → PackWalk set s (Break y)
          in-interfaces = reached-found (tables_in interface_tables) from_named_types at-interfaces a₂

          module _ {p₂ : ℕ} (e₂ : x₂ ≡ Continue p₂) where
            pub at-named-types : Reached set (at_named_types set) from_named_types s p₂
            at-named-types = reached-past (tables_in interface_tables) from_named_types at-interfaces a₂ e₂

            module _ {x₃ : ControlFlow AlikeNames ℕ} (a₃ : WalksAt (list set NamedTypeMeta (named_type set)) (tables_in named_tables) s p₂ x₃) where
              pub in-named-types : {y : AlikeNames} → x₃ ≡ Break y → PackWalk set s (Break y)
              in-named-types = reached-found (tables_in named_tables) from_itabs at-named-types a₃

              module _ {p₃ : ℕ} (e₃ : x₃ ≡ Continue p₃) where
                pub at-itabs : Reached set (at_itabs set) from_itabs s p₃
                at-itabs = reached-past (tables_in named_tables) from_itabs at-named-types a₃ e₃

                module _ {p₄ : ℕ} (v : place.Past (section set 0 itabs) s p₃ p₄) where
                  pub at-runtime-types : Reached set (at_runtime_types set) from_runtime_types s p₄
                  at-runtime-types = reached-skip from_runtime_types at-itabs v

                  pub in-runtime-types : {x₄ : ControlFlow AlikeNames ℕ} → WalksAt (list set RuntimeType (runtime_type set)) (tables_in runtime_tables) s p₄ x₄
                      → PackWalk set s x₄
                  in-runtime-types a₄ = reached-last (tables_in runtime_tables) at-runtime-types a₄
