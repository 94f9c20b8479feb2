-- The contracts of the walks over the records and sections that have tables, and of what is passed over between them.
use Rattle.std.specs.Prelude.{ℕ, ◌+◌, ◌*◌, ◌≤◌, ◌≡◌, List, [], ◌∷◌, length, get_or}
use mathlib.Core.List.{flat_map}
use Rattle.std.specs.declared.ops.ControlFlow.{ControlFlow}
use Rattle.format.specs.Format.{Value, Format, empty, entries}
use Rattle.format.specs.Reading.{little, part}
use Rattle.vob24.specs.Settings.{Settings, max_pack_bytes}
use Rattle.vob24.specs.Grammar.{runtime_variants, pack}
use Rattle.alike.specs.Alike.{field_table, interface_tag, method_table, tables}
use Rattle.in_place.specs.Walk.{value_at, next_at}
use Rattle.in_place.specs.Contract.{Placed}
use Rattle.alike_names.specs.Contract.{Walks}
use Rattle.alike_names.specs.declared.AlikeNames.{AlikeNames}

-- ---- what is passed over

-- the place past a list whose items have four bytes each
abbrev pub words_end : List ℕ → ℕ → ℕ
words_end s p = p + 4 + 4 * little (part s p 4)

-- Such a list stands at p, in a pack that is not too long.
pub record WordsAt (s : List ℕ) (p : ℕ) : Type 0 where
  pub small : length s ≤ max_pack_bytes
  pub room : words_end s p ≤ length s

pub record WordsEnd (s : List ℕ) (p q : ℕ) : Type 0 where
  pub is : q ≡ words_end s p

-- the part of a runtime type behind its tag
abbrev pub variant : Settings → ℕ → Format
variant set tag = get_or (runtime_variants set) tag empty

-- It stands at p, and the tag is not that of an interface.
pub record OtherAt (set : Settings) (tag : ℕ) (s : List ℕ) (p : ℕ) : Type 0 where
  pub other : tag ≡ interface_tag → ⊥
  pub within : p ≤ length s
  pub placed : Placed (variant set tag) s p

-- ---- the tables of a record and of a list

abbrev pub struct_tables : Value → List (List Value)
struct_tables v = field_table v ∷ []

abbrev pub named_tables : Value → List (List Value)
named_tables v = method_table v ∷ []

abbrev pub tables_in : (Value → List (List Value)) → Value → List (List Value)
tables_in ts v = flat_map ts (entries v)

-- What a walk over the tables of the f at p tells.
pub record WalksAt (f : Format) (ts : Value → List (List Value)) (s : List ℕ) (p : ℕ) (q : ControlFlow AlikeNames ℕ) : Type 0 where
  pub walks : Walks (ts (value_at f s p)) (next_at f s p) q

-- What a walk over all tables of a pack tells; it ends past the runtime types.
pub record PackWalk (set : Settings) (s : List ℕ) (q : ControlFlow AlikeNames ℕ) : Type 0 where
  pub end : ℕ
  pub walks : Walks (tables (value_at (pack set) s 0)) end q
