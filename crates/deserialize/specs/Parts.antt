-- The sections from one of them on, as parts of the pack's format.
use Rattle.std.specs.Prelude.{ℕ, suc, zero, List, [], ◌∷◌, get_or, drop, Ok, Err}
use Rattle.format.specs.Format.{Value, first, Format, empty, seq, counted}
use Rattle.vob24.specs.Settings.{Settings}
use Rattle.vob24.specs.Grammar as vob
use Rattle.vob24.specs.Grammar.{inline_sources, section}
use Rattle.vob24_data.specs.Sections.{section_of, functions_of, number_of}
use Rattle.vob24.specs.Fields.{after}
use Rattle.vob24.specs.Cost.{all_sections}
use Rattle.vob24_theorems.specs.InTurn.{functions_after}
use Rattle.vob24_data.specs.declared.Section.{Section}
use Rattle.reader.specs.Contract.{Read}

-- one section
abbrev pub format_of : Settings → Section → Format
format_of set x = section set (functions_of x) (section_of x)

-- The number of functions after a section of this value; a list's words open with its count.
abbrev pub functions_by : ℕ → vob.Section → Value → ℕ
functions_by n x v = functions_after n x (counted v ∷ [])

-- Sections one after the other. The last of a pack goes by the number of functions.
abbrev pub in_order : Settings → ℕ → List vob.Section → Format
in_order set n [] = empty
in_order set n (x ∷ []) = section set n x
in_order set n (x ∷ y ∷ xs) = seq (section set 0 x) (λ v. in_order set (functions_by n x v) (y ∷ xs))

-- The pack's sections from the one numbered i on.
abbrev pub from_number : Settings → ℕ → ℕ → Format
from_number set n i = in_order set n (drop i all_sections)

abbrev pub from_section : Settings → ℕ → vob.Section → Format
from_section set n x = from_number set n (number_of x)

-- The number of functions that was read before it, of the sections' value.
abbrev pub functions_before : ℕ → Value → ℕ
functions_before zero v = 0
functions_before (suc i) v = functions_by (functions_before i v) (get_or all_sections i inline_sources) (first (after i v))

-- The number of functions of an answer: what the sections after them go by.
abbrev pub count_of : Read ℕ → ℕ
count_of (Ok (n, c)) = n
count_of (Err x) = 0
