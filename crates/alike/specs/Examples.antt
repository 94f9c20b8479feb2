-- Names and packs of literal bytes, and the literal answers that the definitions give.
use Rattle.std.specs.Prelude.{ℕ, refl, Bool, true, false, length, replicate}
use mathlib.Core.List.{List, [], ◌∷◌, ◌++◌, flat_map, flatten}
use Rattle.format.specs.Trace.{bind, guard, pick, settle}
use Rattle.format.specs.Format.{chain, items}
use Rattle.format.specs.Reading.{little, same, room, field, trace_ask, trace_leaf, trace}
use Rattle.vob24.specs.Settings.{settings, size_of}
use Rattle.vob24.specs.Questions
use Rattle.vob24.specs.Grammar
use Rattle.vob24.specs.Cost.{part_of}
use Rattle.vob24.specs.Calls.{whole_trace}
use Rattle.vob24.specs.Examples.{Row, Hold}
use Rattle.alike.specs.Decompositions.{decompositions, replaced, decomposed, fold, scalars, alike}
use Rattle.alike.specs.Alike.{tables, nearest, pair_after, pair_in, Answer, Pair, None, Not, alike_outcome}

-- ---- names

abbrev folded : List ℕ → List ℕ → Row (List ℕ)
folded x cs = record { given = fold (scalars x); expected = cs }

abbrev pub fold_rows : List (Row (List ℕ))
fold_rows =
    -- "are replaced by it": U+00E9, and the first and the last letter of the table
    folded (0xc3 ∷ 0xa9 ∷ []) (0x65 ∷ 0x301 ∷ [])
    ∷ folded (0xc3 ∷ 0x80 ∷ []) (0x41 ∷ 0x300 ∷ [])
    ∷ folded (0xc5 ∷ 0xbe ∷ []) (0x7a ∷ 0x30c ∷ [])
    -- "every other character stays": U+00D7, U+00DF, U+00E6 have no decomposition
    ∷ folded (0xc3 ∷ 0x97 ∷ []) (0xd7 ∷ [])
    ∷ folded (0xc3 ∷ 0x9f ∷ []) (0xdf ∷ [])
    ∷ folded (0xc3 ∷ 0xa6 ∷ []) (0xe6 ∷ [])
    -- U+0132, U+0133, U+013F, U+0140, U+0149, U+017F have one with a tag
    ∷ folded (0xc4 ∷ 0xb2 ∷ []) (0x132 ∷ [])
    ∷ folded (0xc4 ∷ 0xb3 ∷ []) (0x133 ∷ [])
    ∷ folded (0xc4 ∷ 0xbf ∷ []) (0x13f ∷ [])
    ∷ folded (0xc5 ∷ 0x80 ∷ []) (0x140 ∷ [])
    ∷ folded (0xc5 ∷ 0x89 ∷ []) (0x149 ∷ [])
    ∷ folded (0xc5 ∷ 0xbf ∷ []) (0x17f ∷ [])
    -- U+00BF, U+0180, U+01CE, U+1E9E, U+1EC7, U+1F600 stand outside the range
    ∷ folded (0xc2 ∷ 0xbf ∷ []) (0xbf ∷ [])
    ∷ folded (0xc6 ∷ 0x80 ∷ []) (0x180 ∷ [])
    ∷ folded (0xc7 ∷ 0x8e ∷ []) (0x1ce ∷ [])
    ∷ folded (0xe1 ∷ 0xba ∷ 0x9e ∷ []) (0x1e9e ∷ [])
    ∷ folded (0xe1 ∷ 0xbb ∷ 0x87 ∷ []) (0x1ec7 ∷ [])
    ∷ folded (0xf0 ∷ 0x9f ∷ 0x98 ∷ 0x80 ∷ []) (0x1f600 ∷ [])
    -- "marks are not reordered": U+00EA and U+0323
    ∷ folded (0xc3 ∷ 0xaa ∷ 0xcc ∷ 0xa3 ∷ []) (0x65 ∷ 0x302 ∷ 0x323 ∷ [])
    ∷ folded [] []
    ∷ []

abbrev compared : List ℕ → List ℕ → Bool → Row Bool
compared x y b = record { given = alike x y; expected = b }

abbrev pub alike_rows : List (Row Bool)
alike_rows =
    -- U+00E9 and its decomposition; with another mark, with none
    compared (0xc3 ∷ 0xa9 ∷ []) (0x65 ∷ 0xcc ∷ 0x81 ∷ []) true
    ∷ compared (0xc3 ∷ 0xa9 ∷ []) (0x65 ∷ 0xcc ∷ 0x80 ∷ []) false
    ∷ compared (0xc3 ∷ 0xa9 ∷ []) (0x65 ∷ []) false
    ∷ compared (0xc3 ∷ 0xa9 ∷ []) (0xc3 ∷ 0xa8 ∷ []) false
    -- the first and the last letter of the table
    ∷ compared (0xc3 ∷ 0x80 ∷ []) (0x41 ∷ 0xcc ∷ 0x80 ∷ []) true
    ∷ compared (0xc5 ∷ 0xbe ∷ []) (0x7a ∷ 0xcc ∷ 0x8c ∷ []) true
    -- U+00EA with U+0323: as e, U+0302, U+0323; not as U+1EC7, nor with the marks in the other order
    ∷ compared (0xc3 ∷ 0xaa ∷ 0xcc ∷ 0xa3 ∷ []) (0x65 ∷ 0xcc ∷ 0x82 ∷ 0xcc ∷ 0xa3 ∷ []) true
    ∷ compared (0xc3 ∷ 0xaa ∷ 0xcc ∷ 0xa3 ∷ []) (0xe1 ∷ 0xbb ∷ 0x87 ∷ []) false
    ∷ compared (0xc3 ∷ 0xaa ∷ 0xcc ∷ 0xa3 ∷ []) (0x65 ∷ 0xcc ∷ 0xa3 ∷ 0xcc ∷ 0x82 ∷ []) false
    -- decompositions with a tag: U+0149, U+017F, U+0132, U+013F
    ∷ compared (0xc5 ∷ 0x89 ∷ []) (0xca ∷ 0xbc ∷ 0x6e ∷ []) false
    ∷ compared (0xc5 ∷ 0xbf ∷ []) (0x73 ∷ []) false
    ∷ compared (0xc4 ∷ 0xb2 ∷ []) (0x49 ∷ 0x4a ∷ []) false
    ∷ compared (0xc4 ∷ 0xbf ∷ []) (0x4c ∷ 0xc2 ∷ 0xb7 ∷ []) false
    -- U+01CE, a letter outside the range that has a canonical decomposition
    ∷ compared (0xc7 ∷ 0x8e ∷ []) (0x61 ∷ 0xcc ∷ 0x8c ∷ []) false
    -- "ÄÄ" with one of them decomposed, with the other
    ∷ compared (0xc3 ∷ 0x84 ∷ 0x41 ∷ 0xcc ∷ 0x88 ∷ []) (0x41 ∷ 0xcc ∷ 0x88 ∷ 0xc3 ∷ 0x84 ∷ []) true
    -- the empty name is alike to itself alone
    ∷ compared [] [] true
    ∷ compared [] (0x41 ∷ []) false
    ∷ compared (0x41 ∷ []) [] false
    ∷ []

-- ---- packs

-- a number below 256 in four bytes; so many bytes 0
abbrev four : ℕ → List ℕ
four n = n ∷ 0 ∷ 0 ∷ 0 ∷ []

abbrev zeros : ℕ → List ℕ
zeros n = replicate n 0

-- a list of names, with so many bytes 0 after each
abbrev listed : ℕ → List (List ℕ) → List ℕ
listed k names = four (length names) ++ flat_map (λ x. four (length x) ++ x ++ zeros k) names

-- a struct of these fields; an interface of these method names and methods; a named type of these methods; a runtime
-- struct and a runtime interface
abbrev struct : List (List ℕ) → List ℕ
struct fields = four 0 ++ listed 10 fields

abbrev interface : List (List ℕ) → List (List ℕ) → List ℕ
interface names methods = four 0 ++ listed 0 names ++ listed 4 methods

abbrev named_type : List (List ℕ) → List ℕ
named_type methods = zeros 12 ++ listed 10 methods

abbrev runtime_struct : List (List ℕ) → List ℕ
runtime_struct fields = (8 ∷ []) ++ four 0 ++ listed 13 fields

abbrev runtime_interface : List (List ℕ) → List ℕ
runtime_interface methods = (9 ∷ []) ++ four 0 ++ listed 4 methods

-- entries of a section; the bare pack with these structs, interfaces, named types and runtime types
abbrev section : List (List ℕ) → List ℕ
section entries = four (length entries) ++ flatten entries

abbrev pack_of : List (List ℕ) → List (List ℕ) → List (List ℕ) → List (List ℕ) → List ℕ
pack_of structs interfaces named_types runtime_types =
    (86 ∷ 79 ∷ 66 ∷ 24 ∷ 0 ∷ 0 ∷ 0 ∷ []) ++ four 0 ++ section structs ++ section interfaces ++ section named_types ++ four 0 ++ section runtime_types
    ++ zeros 81

-- "é" and "Ä", each as one code and as two; "A"; "_"
abbrev e1 : List ℕ
e1 = 0xc3 ∷ 0xa9 ∷ []

abbrev e2 : List ℕ
e2 = 0x65 ∷ 0xcc ∷ 0x81 ∷ []

abbrev a1 : List ℕ
a1 = 0xc3 ∷ 0x84 ∷ []

abbrev a2 : List ℕ
a2 = 0x41 ∷ 0xcc ∷ 0x88 ∷ []

abbrev a : List ℕ
a = 0x41 ∷ []

abbrev blank : List ℕ
blank = 0x5f ∷ []

abbrev answered : List ℕ → Answer → Row Answer
answered s x = record { given = alike_outcome settings s; expected = x }

-- number, c, d1, d2, place, left
abbrev refusal : ℕ → ℕ → ℕ → ℕ → ℕ → ℕ → Answer
refusal e c d1 d2 p l = Not (record { number = e; context = c; detail1 = d1; detail2 = d2 }) p l

abbrev pub pack_rows : List (Row Answer)
pack_rows =
    -- the bare pack
    answered (pack_of [] [] [] []) None
    -- two fields of a struct, in either order; with a "_" between them; of the second struct, with another between them
    ∷ answered (pack_of (struct (e1 ∷ e2 ∷ []) ∷ []) [] [] []) (Pair 27 2 43 3)
    ∷ answered (pack_of (struct (e2 ∷ e1 ∷ []) ∷ []) [] [] []) (Pair 27 3 44 2)
    ∷ answered (pack_of (struct (e1 ∷ blank ∷ e2 ∷ []) ∷ []) [] [] []) (Pair 27 2 58 3)
    ∷ answered (pack_of (struct (a ∷ []) ∷ struct (e1 ∷ a ∷ e2 ∷ []) ∷ []) [] [] []) (Pair 50 2 81 3)
    -- fields that are not alike
    ∷ answered (pack_of (struct (e1 ∷ a ∷ a1 ∷ []) ∷ []) [] [] []) None
    -- one field in each of two structs
    ∷ answered (pack_of (struct (e1 ∷ []) ∷ struct (e2 ∷ []) ∷ []) [] [] []) None
    -- of three alike the first two
    ∷ answered (pack_of (struct ((e1 ++ e1) ∷ (e1 ++ e2) ∷ (e2 ++ e2) ∷ []) ∷ []) [] [] []) (Pair 27 4 45 5)
    -- "whose later name ends earliest": of two pairs the inner one
    ∷ answered (pack_of (struct (e1 ∷ a1 ∷ a2 ∷ e2 ∷ []) ∷ []) [] [] []) (Pair 43 2 59 3)
    -- "other than "_"": two of them pass, and are no pair
    ∷ answered (pack_of (struct (blank ∷ blank ∷ []) ∷ []) [] [] []) None
    -- "each interface list": the names, the methods, each in its own list; of both the names come first
    ∷ answered (pack_of [] (interface (e1 ∷ e2 ∷ []) [] ∷ []) [] []) (Pair 31 2 37 3)
    ∷ answered (pack_of [] (interface [] (e1 ∷ e2 ∷ []) ∷ []) [] []) (Pair 35 2 45 3)
    ∷ answered (pack_of [] (interface (e1 ∷ []) (e2 ∷ []) ∷ []) [] []) None
    ∷ answered (pack_of [] (interface (e1 ∷ e2 ∷ []) (e1 ∷ e2 ∷ []) ∷ []) [] []) (Pair 31 2 37 3)
    -- a named type's methods; those of two
    ∷ answered (pack_of [] [] (named_type (e1 ∷ e2 ∷ []) ∷ []) []) (Pair 43 2 59 3)
    ∷ answered (pack_of [] [] (named_type (e1 ∷ []) ∷ named_type (e2 ∷ []) ∷ []) []) None
    -- a runtime interface's methods; those of two; the fields of a runtime struct
    ∷ answered (pack_of [] [] [] (runtime_interface (e1 ∷ e2 ∷ []) ∷ [])) (Pair 44 2 54 3)
    ∷ answered (pack_of [] [] [] (runtime_interface (e1 ∷ []) ∷ runtime_interface (e2 ∷ []) ∷ [])) None
    ∷ answered (pack_of [] [] [] (runtime_struct (e1 ∷ e2 ∷ []) ∷ [])) None
    -- a pair in each of two sections; a name in each section
    ∷ answered (pack_of [] (interface [] (e1 ∷ e2 ∷ []) ∷ []) (named_type (e1 ∷ e2 ∷ []) ∷ []) []) (Pair 35 2 45 3)
    ∷ answered
    (pack_of (struct (a ∷ e1 ∷ []) ∷ []) (interface (a ∷ e1 ∷ []) (a ∷ e2 ∷ []) ∷ []) (named_type (a ∷ e1 ∷ []) ∷ []) (runtime_interface (a ∷ e2 ∷ []) ∷ []))
    None
    -- refused: a byte past the end, without and with a pair; "Reading itself goes on comparing bytes": "é" twice
    ∷ answered (pack_of [] [] [] [] ++ (0 ∷ [])) (refusal 24 0 1 0 112 536870912)
    ∷ answered (pack_of (struct (e1 ∷ e2 ∷ []) ∷ []) [] [] [] ++ (0 ∷ [])) (refusal 24 0 1 0 153 536870614)
    ∷ answered (pack_of (struct (e1 ∷ e1 ∷ []) ∷ []) [] [] []) (refusal 16 0 43 2 55 536870616)
    ∷ []

pub examples-hold : Hold fold_rows × Hold alike_rows × Hold pack_rows
unfolding flat_map flatten alike_outcome tables nearest pair_after pair_in alike fold scalars decomposed replaced decompositions part_of whole_trace settle trace trace_leaf trace_ask field room guard bind pick little same chain items size_of Questions.among Questions.named Questions.field_keys Questions.new_names Questions.among_identities Questions.new_identities Grammar.struct_field Grammar.interface_method Grammar.method Grammar.new_method Grammar.runtime_field Grammar.runtime_method Grammar.error_types Grammar.object_interfaces Grammar.struct Grammar.interface Grammar.methods Grammar.named_type Grammar.runtime_struct Grammar.runtime_interface Grammar.runtime_type Grammar.inline_frames Grammar.inline_functions Grammar.section Grammar.after_functions Grammar.sections Grammar.pack
examples-hold = (refl, refl, refl)
