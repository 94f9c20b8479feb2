-- The contracts of the walk over the tables of a pack.
use Rattle.std.specs.Prelude.{ℕ, ◌≡◌, List, [], ◌∷◌, Option, Some, None, Result, Ok, Err, map}
use Rattle.std.specs.declared.ops.ControlFlow.{ControlFlow}
use Rattle.std.specs.declared.ops.ControlFlow.TheVariants.{Continue, Break}
use Rattle.format.specs.Format.{Value}
use Rattle.vob24.specs.Settings.{Settings}
use Rattle.vob24.specs.Questions.{named}
use Rattle.vob24.specs.Grammar.{field_name, pack}
use Rattle.alike.specs.Alike.{pair_in, tables, shown}
use Rattle.alike.specs.Alike as alike
use Rattle.alike_theorems.specs.NewNames.{AllNew}
use Rattle.reader.specs.Contract.{wrong_of}
use Rattle.reader.specs.declared.Refusal.{Refusal}
use Rattle.in_place.specs.declared.Item.{Item}
use Rattle.in_place.specs.declared.Item.TheVariants.{Name, StructField, InterfaceMethod, RuntimeMethod, NamedMethod, RuntimeField}
use Rattle.in_place.specs.Walk.{value_at, items_at, last_at}
use Rattle.in_place.specs.Items.{format_of, names_of}
use Rattle.in_place.specs.Contract.{Items}
use Rattle.alike_names.specs.declared.AlikeNames.{AlikeNames}

-- Document 02's values for each case of the answer.
abbrev pub pair_of : AlikeNames → alike.Answer
pair_of x = alike.Pair x.earlier.start x.earlier.length x.later.start x.later.length

abbrev pub answer_of : Result (Option AlikeNames) Refusal → alike.Answer
answer_of (Ok (Some x)) = pair_of x
answer_of (Ok None) = alike.None
answer_of (Err x) = alike.Not (wrong_of x) x.place x.left

-- the names of a table's items: of a struct's fields those other than "_"
abbrev pub table_of : Item → List Value → List Value
table_of Name vs = names_of Name vs
table_of StructField vs = named (map field_name vs)
table_of InterfaceMethod vs = names_of InterfaceMethod vs
table_of RuntimeMethod vs = names_of RuntimeMethod vs
table_of NamedMethod vs = names_of NamedMethod vs
table_of RuntimeField vs = names_of RuntimeField vs

-- n items from a place on, whose names are new, as reading has asked.
pub record TableAt (i : Item) (n : ℕ) (s : List ℕ) (from : ℕ) : Type 0 where
  pub items : Items (format_of i) n s from
  pub new : AllNew [] (table_of i (items_at (format_of i) n s from))

-- What a walk over these tables tells: the pair, or that there is none, and the place past them.
pub data Walks (ts : List (List Value)) (next : ℕ) : ControlFlow AlikeNames ℕ → Type 0 where
  found : {x : AlikeNames} → shown (pair_in ts) ≡ pair_of x → Walks ts next (Break x)
  past : {q : ℕ} → pair_in ts ≡ alike.none → q ≡ next → Walks ts next (Continue q)

pub record TableWalk (i : Item) (n : ℕ) (s : List ℕ) (from : ℕ) (q : ControlFlow AlikeNames ℕ) : Type 0 where
  pub walks : Walks (table_of i (items_at (format_of i) n s from) ∷ []) (last_at (format_of i) n s from) q

-- THE contract of the call.
pub record AlikeCall (set : Settings) (s : List ℕ) (q : Result (Option AlikeNames) Refusal) : Type 0 where
  pub is : answer_of q ≡ alike.alike_outcome set s

-- The pair of a pack that was read.
pub record AlikeIn (set : Settings) (s : List ℕ) (q : Option AlikeNames) : Type 0 where
  pub is : answer_of (Ok q) ≡ shown (pair_in (tables (value_at (pack set) s 0)))
