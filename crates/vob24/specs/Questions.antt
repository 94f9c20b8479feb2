-- The questions that the pack puts to what was read: repeated names, transfer words, counts that must agree.
use Rattle.std.specs.Prelude.{ℕ, ◌+◌, List, [], ◌∷◌, ◌++◌, Bool, true, false, length, eqb}
use Rattle.format.specs.Trace.{Wrong, wrong, pick}
use Rattle.format.specs.Format.{Value, start, content, Ask, pay, deny}
use Rattle.format.specs.Reading.{same}
use Rattle.vob24.specs.Refusals.{duplicate_struct_field, duplicate_interface_method, duplicate_runtime_struct_field, invalid_function_metadata, invalid_instruction_metadata, host_calls, struct_field_key, slot_count}
use Rattle.vob24.specs.Leaves.{packed_ok}

abbrev pub refuse_if : Bool → Wrong → List Ask
refuse_if d w = pick d (deny w ∷ []) []

abbrev pub refuse_unless : Bool → Wrong → List Ask
refuse_unless d w = pick d [] (deny w ∷ [])

-- The bytes x stand among the earlier ones.
unfoldable pub among : List ℕ → List (List ℕ) → Bool
among x [] = false
among x (y ∷ ys) = pick (same x y) true (among x ys)

-- The name "_".
abbrev pub blank : Value → Bool
blank name = same (content name) (95 ∷ [])

-- "d1, d2 start and length of the repeat; c in 19 the package text's start"
abbrev pub repeat : ℕ → ℕ → Value → Wrong
repeat e c name = record { number = e; context = c; detail1 = start name; detail2 = length (content name) }

-- The names other than "_".
unfoldable pub named : List Value → List Value
named [] = []
named (v ∷ vs) = pick (blank v) (named vs) (v ∷ named vs)

-- "name by name, its length, charged just before that name is compared with earlier ones"
unfoldable pub field_keys : List (List ℕ) → List Value → List Ask
field_keys seen [] = []
field_keys seen (v ∷ vs) = pay struct_field_key (length (content v)) ∷ refuse_if (among (content v) seen) (repeat duplicate_struct_field 0 v) ++ field_keys (content v ∷ seen) vs

-- "Names new in their table? 17 interface methods"
unfoldable pub new_names : List (List ℕ) → List Value → List Ask
new_names seen [] = []
new_names seen (v ∷ vs) = refuse_if (among (content v) seen) (repeat duplicate_interface_method 0 v) ++ new_names (content v ∷ seen) vs

-- A name of a runtime struct's field, with its package.
abbrev pub Identity : Type 0
Identity = Value × Value

unfoldable pub among_identities : Identity → List Identity → Bool
among_identities x [] = false
among_identities x (y ∷ ys) = pick (same (content x.1) (content y.1)) (pick (same (content x.0) (content y.0)) true (among_identities x ys)) (among_identities x ys)

-- "19 runtime struct fields by package and name", "_" exempt
unfoldable pub new_identities : List Identity → List Identity → List Ask
new_identities seen [] = []
new_identities seen (x ∷ xs) =
    refuse_if (pick (blank x.1) false (among_identities x seen)) (repeat duplicate_runtime_struct_field (start x.0) x.1)
    ++ new_identities (pick (blank x.1) seen (x ∷ seen)) xs

-- 20: c, d1, d2
abbrev pub function_wrong : ℕ → ℕ → ℕ → Wrong
function_wrong c i x = record { number = invalid_function_metadata; context = c; detail1 = i; detail2 = x }

-- "Transfer words valid? c 1 capture meta, 2 capture rttid, 3 parameter meta, 4 parameter rttid; d1 index, d2 word":
-- the words meta and rttid of each entry, from the entry number i on.
unfoldable pub transfer_words : ℕ → ℕ → List (ℕ × ℕ) → List Ask
transfer_words c i [] = []
transfer_words c i (x ∷ xs) =
    refuse_unless (packed_ok x.0) (function_wrong c i x.0)
    ++ (refuse_unless (packed_ok x.1) (function_wrong (c + 1) i x.1)
    ++ transfer_words c (i + 1) xs)

-- "slot types as many as `local_slots`? 20 (for 5 slot types, then `local_slots`)"
abbrev pub same_slots : ℕ → ℕ → List Ask
same_slots types locals = refuse_unless (eqb types locals) (function_wrong slot_count types locals)

-- "as many metadata as instructions? 15"
abbrev pub same_code : ℕ → ℕ → List Ask
same_code metadata instructions = refuse_unless (eqb metadata instructions) (wrong invalid_instruction_metadata 0)

-- "extern count 0? 25 HostCalls (d1)"
abbrev pub no_host_calls : ℕ → List Ask
no_host_calls externs = refuse_unless (eqb externs 0) (wrong host_calls externs)
