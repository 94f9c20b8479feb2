-- The questions on the items of a table, each by the items before it.
use Rattle.std.specs.Prelude.{ℕ, zero, suc, ◌+◌, ◌*◌, List, [], ◌∷◌, ◌++◌, map, length}
use Rattle.format.specs.Trace.{Wrong, pick}
use Rattle.format.specs.Format.{Value, start, content, Ask, pay}
use Rattle.vob24.specs.Refusals as refusals
use Rattle.vob24.specs.Questions.{refuse_if, among, blank, repeat}
use Rattle.vob24.specs.Settings as of
use Rattle.vob24.specs.Settings.{Settings, size_of}
use Rattle.vob24.specs.Grammar.{field_name, field_index, method_set, method, method_name, identity, field_set}
use Rattle.in_place.specs.declared.Item.TheVariants.{StructField}
use Rattle.in_place.specs.declared.Table.{Table}
use Rattle.in_place.specs.declared.Table.TheVariants.{Fields, Methods, Identities, Alike}
use Rattle.in_place.specs.Items.{name_of, names_of}
use Rattle.in_place.specs.Walk.{value_at, last_at}
use Rattle.in_place.specs.Contract.{over}
use Rattle.repeat_search.specs.Tables.{repeats}

-- 16: a struct field's name is charged; "_" is no key. Reading puts no question on names alike.
abbrev pub charges : Table → Value → List Ask
charges Fields v = pick (blank (name_of StructField v)) [] (pay refusals.struct_field_key (length (content (name_of StructField v))) ∷ [])
charges (Methods i) v = []
charges Identities v = []
charges (Alike i) v = []

-- what they come to
abbrev pub price_of : Table → Value → ℕ
price_of Fields v = pick (blank (name_of StructField v)) 0 (length (content (name_of StructField v)))
price_of (Methods i) v = 0
price_of Identities v = 0
price_of (Alike i) v = 0

unfoldable pub price : Table → List Value → ℕ
price t [] = 0
price t (v ∷ vs) = price_of t v + price t vs

abbrev pub wrong_in : Table → Value → Wrong
wrong_in Fields v = repeat refusals.duplicate_struct_field 0 (name_of StructField v)
wrong_in (Methods i) v = repeat refusals.duplicate_interface_method 0 (name_of i v)
wrong_in Identities v = repeat refusals.duplicate_runtime_struct_field (start (identity v).0) (identity v).1
wrong_in (Alike i) v = repeat refusals.duplicate_interface_method 0 (name_of i v)

-- 16, 17, 19: an item's charge, and that it repeats none before it
unfoldable pub table_asks : Table → List Value → Value → List Ask
table_asks t before v = charges t v ++ refuse_if (repeats t before v) (wrong_in t v)

-- the table's charge, and then those on its items
abbrev pub list_asks : Table → Settings → List Value → List Ask
list_asks Fields set vs = field_index set (map field_name vs)
list_asks (Methods i) set vs = method_set set (names_of i vs)
list_asks Identities set vs = field_set set (map identity vs)
list_asks (Alike i) set vs = pay refusals.interface_method_set (length vs * (2 * size_of set of.Str)) ∷ over (table_asks (Alike i)) [] vs

-- the names of the first i methods from a place on, as the named type's list has them after i methods
unfoldable pub seen_at : ℕ → List ℕ → ℕ → List (List ℕ)
seen_at zero s p = []
seen_at (suc i) s p = content (method_name (value_at method s (last_at method i s p))) ∷ seen_at i s p

-- 18
abbrev pub method_asks : List (List ℕ) → Value → List Ask
method_asks seen v = refuse_if (among (content (method_name v)) seen) (repeat refusals.duplicate_named_method 0 (method_name v))
