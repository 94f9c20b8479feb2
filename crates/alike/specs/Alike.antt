-- Names that print alike: the tables of a pack, and the pair that the call answers.
use Rattle.std.specs.Prelude.{ℕ, length, eqb}
use mathlib.Core.List.{List, [], ◌∷◌, ◌++◌, map, flat_map}
use Rattle.format.specs.Trace.{Wrong, pick, Settled, refused, taken, settle}
use Rattle.format.specs.Format.{Value, number, start, content, entries}
use Rattle.vob24.specs.Settings.{Settings, starting_budget}
use Rattle.vob24.specs.Fields.{variant_of, struct_of, interface_of, new_method_of, named_type_of, runtime_interface_of}
use Rattle.vob24.specs.Questions.{named}
use Rattle.vob24.specs.Grammar.{field_name, method_name, structs, interfaces, named_types, runtime_types}
use Rattle.vob24.specs.Cost.{part_of}
use Rattle.vob24.specs.Calls.{whole_trace}
use Rattle.alike.specs.Decompositions.{alike}

-- ---- the tables, each the names of a list in file order

-- "each struct's fields other than "_" in the struct section"
abbrev pub field_table : Value → List Value
field_table v = named (map field_name (entries (struct_of v).fields))

-- "each interface list": its method names, and its methods
abbrev pub interface_tables : Value → List (List Value)
interface_tables v = entries (interface_of v).method_names ∷ map method_name (entries (interface_of v).methods) ∷ []

-- "each named type's methods"
abbrev pub method_table : Value → List Value
method_table v = map (λ m. method_name (new_method_of m).method) (entries (named_type_of v).methods)

-- the tag of Interface among the runtime types
abbrev pub interface_tag : ℕ
interface_tag = 9

-- "each runtime interface's .. methods"
abbrev pub runtime_tables : Value → List (List Value)
runtime_tables v =
    pick (eqb (number (variant_of v).tag) interface_tag)
    (map method_name (entries (runtime_interface_of (variant_of v).part).methods) ∷ [])
    []

-- of a pack's value, in file order
unfoldable pub tables : Value → List (List Value)
tables v =
    map field_table (entries (part_of structs v))
    ++ (flat_map interface_tables (entries (part_of interfaces v))
    ++ (map method_table (entries (part_of named_types v))
    ++ flat_map runtime_tables (entries (part_of runtime_types v))))

-- ---- the pair

pub data Names : Type 0 where
  none : Names
  pair : (earlier later : Value) → Names

abbrev pub or_else : Names → Names → Names
or_else none q = q
or_else (pair x y) q = pair x y

-- "with the earlier name nearest to it": of the names before, the last that is alike
unfoldable pub nearest : Value → List Value → Names
nearest y [] = none
nearest y (x ∷ xs) = or_else (nearest y xs) (pick (alike (content x) (content y)) (pair x y) none)

-- "the pair whose later name ends earliest in the file": the first name that is alike to one before it
unfoldable pub pair_after : List Value → List Value → Names
pair_after before [] = none
pair_after before (y ∷ ys) = or_else (nearest y before) (pair_after (before ++ (y ∷ [])) ys)

-- "two names of one table"
unfoldable pub pair_in : List (List Value) → Names
pair_in [] = none
pair_in (t ∷ ts) = or_else (pair_after [] t) (pair_in ts)

-- ---- the call

-- start and length of the earlier name and of the later; none; or the refusal
pub data Answer : Type 0 where
  Pair : (earlier_start earlier_length later_start later_length : ℕ) → Answer
  None : Answer
  Not : Wrong → (place left : ℕ) → Answer

-- "Names in an answer are start and length."
abbrev pub shown : Names → Answer
shown none = None
shown (pair x y) = Pair (start x) (length (content x)) (start y) (length (content y))

-- "In a pack that passes": "The lookup, like any later question about a pack, rereads it under the Rust's starting
-- budget."
abbrev pub answering : Settled Value → Answer
answering (refused w p l) = Not w p l
answering (taken v p l) = shown (pair_in (tables v))

unfoldable pub alike_outcome : Settings → List ℕ → Answer
alike_outcome set s = answering (settle starting_budget (whole_trace set s))
