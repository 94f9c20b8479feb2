-- Packs of literal bytes, and the literal answers that the definitions give.
use Rattle.std.specs.Prelude.{ℕ, ◌*◌, refl, length, replicate}
use mathlib.Core.List.{List, [], ◌∷◌, ◌++◌, flatten, map}
use Rattle.format.specs.Trace.{bind, guard, pick, settle}
use Rattle.format.specs.Format.{chain, items}
use Rattle.format.specs.Reading.{little, same, room, field, packed_step, trace_packed, trace_ask, trace_leaf, trace}
use Rattle.vob24.specs.Settings.{settings, size_of}
use Rattle.vob24.specs.Questions
use Rattle.vob24.specs.Grammar
use Rattle.vob24.specs.Cost.{part_of}
use Rattle.vob24.specs.Calls.{whole_trace}
use Rattle.vob24.specs.Examples.{Row, Hold}
use Rattle.source.specs.Source.{best_from, Answer, Entry, None, Not, source_outcome}

-- a number below 256 in four bytes; so many bytes 0
abbrev four : ℕ → List ℕ
four n = n ∷ 0 ∷ 0 ∷ 0 ∷ []

abbrev zeros : ℕ → List ℕ
zeros n = replicate n 0

-- a list of these entries
abbrev listed : List (List ℕ) → List ℕ
listed entries = four (length entries) ++ flatten entries

-- a function's locations: the bytes of each pc, with file 6, line 300, column 0 and length 2
abbrev located : List (List ℕ) → List ℕ
located pcs = listed (map (λ pc. pc ++ (6 ∷ 0xac ∷ 0x02 ∷ 0 ∷ 2 ∷ [])) pcs)

-- a function whose fields are all 0 has 56 bytes; the bare pack with so many of these, and these lists of locations
abbrev pack_of : ℕ → List (List ℕ) → List ℕ
pack_of functions lists =
    (86 ∷ 79 ∷ 66 ∷ 24 ∷ 0 ∷ 0 ∷ 0 ∷ []) ++ zeros 69 ++ four functions ++ zeros (functions * 56) ++ zeros 20 ++ listed lists ++ zeros 8

-- pcs of one byte, in file order
abbrev short : List ℕ → List ℕ
short pcs = located (map (λ pc. pc ∷ []) pcs)

-- 4,294,967,295, packed
abbrev greatest : List ℕ
greatest = 0xff ∷ 0xff ∷ 0xff ∷ 0xff ∷ 0x0f ∷ []

abbrev answered : List ℕ → ℕ → ℕ → Answer → Row Answer
answered s function address x = record { given = source_outcome settings s function address; expected = x }

-- number, c, d1, d2, place, left
abbrev refusal : ℕ → ℕ → ℕ → ℕ → ℕ → ℕ → Answer
refusal e c d1 d2 p l = Not (record { number = e; context = c; detail1 = d1; detail2 = d2 }) p l

abbrev pub line_rows : List (Row Answer)
line_rows =
    -- the bare pack has no debug list
    answered (pack_of 0 []) 0 0 (refusal 28 0 0 0 112 536870912)
    -- a function without locations
    ∷ answered (pack_of 0 (short [] ∷ [])) 0 4294967295 None
    -- "with address at or below the one given": below all, at the first, between, at and above the last
    ∷ answered (pack_of 0 (short (1 ∷ 5 ∷ 9 ∷ []) ∷ [])) 0 0 None
    ∷ answered (pack_of 0 (short (1 ∷ 5 ∷ 9 ∷ []) ∷ [])) 0 1 (Entry 0)
    ∷ answered (pack_of 0 (short (1 ∷ 5 ∷ 9 ∷ []) ∷ [])) 0 4 (Entry 0)
    ∷ answered (pack_of 0 (short (1 ∷ 5 ∷ 9 ∷ []) ∷ [])) 0 5 (Entry 1)
    ∷ answered (pack_of 0 (short (1 ∷ 5 ∷ 9 ∷ []) ∷ [])) 0 9 (Entry 2)
    ∷ answered (pack_of 0 (short (1 ∷ 5 ∷ 9 ∷ []) ∷ [])) 0 4294967295 (Entry 2)
    -- "Entries need not be sorted": descending, and in no order
    ∷ answered (pack_of 0 (short (9 ∷ 5 ∷ 1 ∷ []) ∷ [])) 0 8 (Entry 1)
    ∷ answered (pack_of 0 (short (9 ∷ 5 ∷ 1 ∷ []) ∷ [])) 0 0 None
    ∷ answered (pack_of 0 (short (5 ∷ 1 ∷ 9 ∷ 3 ∷ []) ∷ [])) 0 8 (Entry 0)
    ∷ answered (pack_of 0 (short (5 ∷ 1 ∷ 9 ∷ 3 ∷ []) ∷ [])) 0 4 (Entry 3)
    -- "the last in the file among equals"
    ∷ answered (pack_of 0 (short (5 ∷ 1 ∷ 5 ∷ 9 ∷ []) ∷ [])) 0 8 (Entry 2)
    ∷ answered (pack_of 0 (short (7 ∷ 7 ∷ 7 ∷ []) ∷ [])) 0 7 (Entry 2)
    ∷ answered (pack_of 0 (short (7 ∷ 7 ∷ 7 ∷ []) ∷ [])) 0 6 None
    -- addresses of more bytes: 300 and 4,294,967,295; and 0
    ∷ answered (pack_of 0 (located ((0xac ∷ 0x02 ∷ []) ∷ greatest ∷ []) ∷ [])) 0 299 None
    ∷ answered (pack_of 0 (located ((0xac ∷ 0x02 ∷ []) ∷ greatest ∷ []) ∷ [])) 0 4294967294 (Entry 0)
    ∷ answered (pack_of 0 (located ((0xac ∷ 0x02 ∷ []) ∷ greatest ∷ []) ∷ [])) 0 4294967295 (Entry 1)
    ∷ answered (pack_of 0 (short (0 ∷ []) ∷ [])) 0 0 (Entry 0)
    -- "that function's": entries are counted in its own list
    ∷ answered (pack_of 0 (short (1 ∷ 2 ∷ 3 ∷ []) ∷ short [] ∷ short (2 ∷ 4 ∷ []) ∷ [])) 0 9 (Entry 2)
    ∷ answered (pack_of 0 (short (1 ∷ 2 ∷ 3 ∷ []) ∷ short [] ∷ short (2 ∷ 4 ∷ []) ∷ [])) 1 9 None
    ∷ answered (pack_of 0 (short (1 ∷ 2 ∷ 3 ∷ []) ∷ short [] ∷ short (2 ∷ 4 ∷ []) ∷ [])) 2 3 (Entry 0)
    -- "A number past the debug list": at its length, and 2 ^ 64 - 1
    ∷ answered (pack_of 0 (short [] ∷ short (2 ∷ []) ∷ [])) 2 0 (refusal 28 0 2 2 126 536870844)
    ∷ answered (pack_of 0 (short [] ∷ short (2 ∷ []) ∷ [])) 18446744073709551615 0 (refusal 28 0 18446744073709551615 2 126 536870844)
    -- "which may be shorter than the function list": two functions, of which the first has locations
    ∷ answered (pack_of 2 (short (2 ∷ []) ∷ [])) 0 2 (Entry 0)
    ∷ answered (pack_of 2 (short (2 ∷ []) ∷ [])) 1 2 (refusal 28 0 1 1 234 536870388)
    -- "after the pack has passed": a byte past the end, and one that is missing
    ∷ answered (pack_of 0 (short (2 ∷ []) ∷ []) ++ (0 ∷ [])) 0 2 (refusal 24 0 1 0 122 536870868)
    ∷ answered (pack_of 0 (short (2 ∷ []) ∷ []) ++ (0 ∷ [])) 1 2 (refusal 24 0 1 0 122 536870868)
    ∷ answered [] 0 0 (refusal 2 0 0 0 0 536870912)
    ∷ []

pub examples-hold : Hold line_rows
unfolding flatten source_outcome best_from part_of whole_trace settle trace trace_leaf trace_ask trace_packed packed_step field room guard bind pick little same chain items size_of Questions.transfer_words Grammar.error_types Grammar.object_interfaces Grammar.function_head Grammar.function_traits Grammar.location Grammar.code Grammar.transfers Grammar.function_returns Grammar.function_body Grammar.function Grammar.inline_frames Grammar.inline_functions Grammar.section Grammar.after_functions Grammar.sections Grammar.pack
examples-hold = refl
