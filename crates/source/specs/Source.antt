-- Which source line was that: the entry of a function's debug locations that the call answers.
use Rattle.std.specs.Prelude.{ℕ, suc, List, [], ◌∷◌, map, length, get_or, leb, ltb}
use Rattle.format.specs.Trace.{Wrong, pick, Settled, refused, taken, settle}
use Rattle.format.specs.Format as value
use Rattle.format.specs.Format.{Value, number, entries}
use Rattle.vob24.specs.Settings.{Settings, starting_budget}
use Rattle.vob24.specs.Fields.{location_of}
use Rattle.vob24.specs.Grammar.{function_locations}
use Rattle.vob24.specs.Cost.{part_of}
use Rattle.vob24.specs.Calls.{whole_trace}

-- ---- the locations

-- "The function number is a place in the debug list": a pack's lists of locations, one a function.
abbrev pub debug_list : Value → List Value
debug_list v = entries (part_of function_locations v)

-- "that function's debug locations": their addresses, in file order
abbrev pub addresses : Value → List ℕ
addresses list = map (λ entry. number (location_of entry).pc) (entries list)

-- ---- the entry

-- The best entry so far, with its address.
pub data Best : Type 0 where
  none : Best
  at : (entry pc : ℕ) → Best

-- "with address at or below the one given .. the one with the greatest address, the last in the file among equals": an
-- entry above the address leaves the best as it was, and so does one below the best.
abbrev pub better : ℕ → Best → ℕ → ℕ → Best
better address none i pc = pick (leb pc address) (at i pc) none
better address (at j best) i pc = pick (leb pc address) (pick (leb best pc) (at i pc) (at j best)) (at j best)

-- From the entry numbered i on: "Entry numbers count from 0."
unfoldable pub best_from : ℕ → ℕ → Best → List ℕ → Best
best_from address i b [] = b
best_from address i b (pc ∷ pcs) = best_from address (suc i) (better address b i pc) pcs

abbrev pub best : ℕ → List ℕ → Best
best address pcs = best_from address 0 none pcs

-- ---- the call

-- the entry; none; or the refusal
pub data Answer : Type 0 where
  Entry : ℕ → Answer
  None : Answer
  Not : Wrong → (place left : ℕ) → Answer

abbrev pub shown : Best → Answer
shown none = None
shown (at i pc) = Entry i

-- "A number past the debug list is 28 NoSuchFunction": it goes to vob24's Refusals with the request
abbrev pub no_such_function : ℕ
no_such_function = 28

-- "28 NoSuchFunction (d1 number, d2 list length)"
abbrev pub no_function : ℕ → ℕ → Wrong
no_function function n = record { number = no_such_function; context = 0; detail1 = function; detail2 = n }

-- "one past a list is one not below its length"; 28 shows the pack's end and the budget left after reading
abbrev pub line_in : ℕ → ℕ → List Value → ℕ → ℕ → Answer
line_in function address lists p l =
    pick (ltb function (length lists))
    (shown (best address (addresses (get_or lists function value.none))))
    (Not (no_function function (length lists)) p l)

-- "after the pack has passed": "The lookup, like any later question about a pack, rereads it under the Rust's starting
-- budget."
abbrev pub answering : ℕ → ℕ → Settled Value → Answer
answering function address (refused w p l) = Not w p l
answering function address (taken v p l) = line_in function address (debug_list v) p l

unfoldable pub source_outcome : Settings → List ℕ → ℕ → ℕ → Answer
source_outcome set s function address = answering function address (settle starting_budget (whole_trace set s))
