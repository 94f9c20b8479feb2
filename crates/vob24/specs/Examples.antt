-- Document 01's worked examples and a table of readings: literal bytes, and the literal answers that the definitions
-- give.
use Rattle.std.specs.Prelude.{ℕ, ◌+◌, ◌-◌, ◌<◌, ◌≤◌, ◌≡◌, refl, List, [], ◌∷◌, ◌++◌, map, Bool, true, false, length, drop, replicate, T, leb}
use Rattle.std.proofs.Math.Path.{ap}
use Rattle.std.proofs.Common.{arith, leb→le}
use Rattle.format.specs.Trace.{Wrong, Trace, bind, guard, pick, amounts, settle}
use Rattle.format.specs.Trace as of
use Rattle.format.specs.Format.{chain, items}
use Rattle.format.specs.Reading.{little, same, room, field, packed_step, trace_packed, trace_ask, trace_leaf, trace}
use Rattle.format.specs.Record.{words_leaf, words}
use Rattle.vob24.specs.Settings.{Settings, settings, size_of, max_pack_bytes, starting_budget}
use Rattle.vob24.specs.Questions
use Rattle.vob24.specs.Grammar
use Rattle.vob24.specs.Grammar.{Section, name, structs, interfaces, named_types, itabs, runtime_types, well_known, constants, globals, functions, externs, entry, island_init, artifacts, files, function_locations, inline_sources}
use Rattle.vob24.specs.Cost.{part_of}
use Rattle.vob24.specs.Calls.{Answer, Taken, Refused, Outcome, whole_trace, section_trace, closing, read_outcome, section_outcome, Found, At, Not, look_in, find_outcome}

-- What a definition gives, and what document 01 says of it.
pub record Row (A : Type 0) : Type 0 where
  pub given : A
  pub expected : A

abbrev pub Hold : {A : Type 0} → List (Row A) → Type 0
Hold rows = map (λ r. r.given) rows ≡ map (λ r. r.expected) rows

abbrev pub Reading : Type 0
Reading = Row Outcome

-- number, c, d1, d2, place, left
abbrev refusal : ℕ → ℕ → ℕ → ℕ → ℕ → ℕ → Answer
refusal e c d1 d2 p l = Refused (record { number = e; context = c; detail1 = d1; detail2 = d2 }) p l

-- The tape that is lent: after a refusal as it was, else with these words in the first places.
abbrev lent : List ℕ
lent = replicate 200 7

abbrev untouched : List ℕ → Answer → Outcome
untouched t a = record { answer = a; tape = t }

abbrev written : Answer → List ℕ → Outcome
written a ws = record { answer = a; tape = ws ++ drop (length ws) lent }

-- A section's bytes that are taken whole under a budget of 10,000: charged, and the words. n is the number of
-- functions.
abbrev taken_by : ℕ → Section → List ℕ → ℕ → List ℕ → Reading
taken_by n x s c ws = record { given = section_outcome settings n x s 0 10000 lent; expected = written (Taken (length ws) (length s) c (10000 - c)) ws }

-- Those that are refused under a budget.
abbrev refused_by : ℕ → Section → List ℕ → ℕ → Answer → Reading
refused_by n x s b a = record { given = section_outcome settings n x s 0 b lent; expected = untouched lent a }

-- A pack under the Rust's budget.
abbrev pack_taken : List ℕ → Answer → List ℕ → Reading
pack_taken s a ws = record { given = read_outcome settings s starting_budget lent; expected = written a ws }

abbrev pack_refused_on : List ℕ → List ℕ → Answer → Reading
pack_refused_on t s a = record { given = read_outcome settings s starting_budget t; expected = untouched t a }

abbrev pack_refused : List ℕ → Answer → Reading
pack_refused = pack_refused_on lent

abbrev taken : Section → List ℕ → ℕ → List ℕ → Reading
taken x = taken_by 0 x

abbrev refused : Section → List ℕ → ℕ → Answer → Reading
refused x = refused_by 0 x

-- a count, length or number below 256 in four bytes; so many bytes 0; a text of one byte
abbrev four : ℕ → List ℕ
four n = n ∷ 0 ∷ 0 ∷ 0 ∷ []

abbrev zeros : ℕ → List ℕ
zeros n = replicate n 0

abbrev letter : ℕ → List ℕ
letter b = four 1 ++ (b ∷ [])

-- one function of one instruction with this metadata, up to its end; and the whole function: what the metadata charges,
-- and its words
abbrev instructed : List ℕ → List ℕ
instructed m = four 1 ++ zeros 36 ++ four 1 ++ zeros 8 ++ four 1 ++ m

abbrev metadata : List ℕ → ℕ → List ℕ → Reading
metadata m c ws = taken functions (instructed m ++ zeros 12) (312 + c) ((1 ∷ 8 ∷ []) ++ zeros 14 ++ (1 ∷ []) ++ zeros 5 ++ (1 ∷ []) ++ ws ++ zeros 3)

-- magic and version; "Bare pack: magic, 18 00 00 00, then 105 zero bytes, 112 in all."
abbrev head : List ℕ
head = 86 ∷ 79 ∷ 66 ∷ 24 ∷ 0 ∷ 0 ∷ 0 ∷ []

abbrev bare : List ℕ
bare = head ++ zeros 105

-- The call on a whole pack, and a section call from a place.
abbrev pub pack_rows : List Reading
pack_rows =
    -- "Whole output: `taken 37 112 0 536870912`."
    pack_taken bare (Taken 37 112 0 536870912) ((11 ∷ []) ++ zeros 36)
    -- "Empty input: `refused 2 0 0 0 0 536870912`."
    ∷ pack_refused [] (refusal 2 0 0 0 0 536870912)
    -- "Name "A" in the bare pack: 113 bytes, charged 1, tape begins 11 1."
    ∷ pack_taken (head ++ letter 65 ++ zeros 101) (Taken 37 113 1 536870911) ((11 ∷ 1 ∷ []) ++ zeros 35)
    -- "magic judged on two bytes (it is 2)"
    ∷ pack_refused (0 ∷ 0 ∷ []) (refusal 2 0 0 0 0 536870912)
    -- "Magic "VOB"? 3. Version 24? 4 (d1 the version read)."
    ∷ pack_refused (86 ∷ 79 ∷ 67 ∷ []) (refusal 3 0 0 0 3 536870912)
    ∷ pack_refused (86 ∷ 79 ∷ 66 ∷ 25 ∷ 1 ∷ 0 ∷ 0 ∷ []) (refusal 4 0 281 0 7 536870912)
    -- "Nothing after the end? 24 (d1 bytes left)."
    ∷ pack_refused (bare ++ (0 ∷ [])) (refusal 24 0 1 0 112 536870912)
    -- "Tape long enough? 26 NoRoom (d1 needed, d2 length)."
    ∷ pack_refused_on (replicate 36 7) bare (refusal 26 0 37 36 112 536870912)
    -- one function, and one function in the inline sources
    ∷ pack_taken (head ++ zeros 69 ++ four 1 ++ zeros 84 ++ four 1 ++ zeros 8) (Taken 59 176 272 536870640)
    ((11 ∷ []) ++ zeros 27 ++ (1 ∷ 84 ∷ []) ++ zeros 26 ++ (1 ∷ 0 ∷ 0 ∷ []))
    -- two in the inline sources
    ∷ pack_refused (head ++ zeros 69 ++ four 1 ++ zeros 84 ++ four 2 ++ zeros 16) (refusal 23 13 2 1 168 536870672)
    -- "a place past the end gives 2; both show the place and budget as given"; "A section counts its bytes from its
    -- given place."
    ∷ record { given = section_outcome settings 0 name [] 1 10000 lent; expected = untouched lent (refusal 2 0 0 0 1 10000) }
    ∷ record { given = section_outcome settings 0 name (9 ∷ 9 ∷ letter 65) 2 10000 lent; expected = written (Taken 2 5 1 9999) (6 ∷ 1 ∷ []) }
    ∷ []

-- "The tape .. holds each field in file order: number or bool one word, 64-bit low word then high, text or payload
-- start and length, list its count then its items, optional id .. always two words (0 0, or 1 and id), other optional
-- parts 0, or 1 and the part. A variant opens with its tag. Signed values are their two's complement bits."
abbrev pub record_rows : List Reading
record_rows =
    -- a number
    taken entry (1 ∷ 2 ∷ 3 ∷ 4 ∷ []) 0 (67305985 ∷ [])
    ∷ taken island_init (0xff ∷ 0xff ∷ 0xff ∷ 0xff ∷ []) 0 (4294967295 ∷ [])
    -- a text: start and length
    ∷ taken name (four 2 ++ (65 ∷ 66 ∷ [])) 2 (4 ∷ 2 ∷ [])
    -- Nil, Bool true, Int 8,589,934,593 ("low word then high"), Float 1.0, String "A"
    ∷ taken constants (four 1 ++ (0 ∷ [])) 24 (1 ∷ 0 ∷ [])
    ∷ taken constants (four 1 ++ (1 ∷ 1 ∷ [])) 24 (1 ∷ 1 ∷ 1 ∷ [])
    ∷ taken constants (four 1 ++ (2 ∷ 1 ∷ 0 ∷ 0 ∷ 0 ∷ 2 ∷ 0 ∷ 0 ∷ 0 ∷ [])) 24 (1 ∷ 2 ∷ 1 ∷ 2 ∷ [])
    ∷ taken constants (four 1 ++ (3 ∷ 0 ∷ 0 ∷ 0 ∷ 0 ∷ 0 ∷ 0 ∷ 0xf0 ∷ 63 ∷ [])) 24 (1 ∷ 3 ∷ 0 ∷ 1072693248 ∷ [])
    ∷ taken constants (four 1 ++ (4 ∷ []) ++ letter 65) 25 (1 ∷ 4 ∷ 9 ∷ 1 ∷ [])
    -- Int -1: its two's complement bits
    ∷ taken constants (four 1 ++ (2 ∷ 0xff ∷ 0xff ∷ 0xff ∷ 0xff ∷ 0xff ∷ 0xff ∷ 0xff ∷ 0xff ∷ [])) 24 (1 ∷ 2 ∷ 4294967295 ∷ 4294967295 ∷ [])
    -- a list in a list's entry: iface_meta_id 7, methods 1 and 2
    ∷ taken itabs (four 1 ++ four 7 ++ four 2 ++ four 1 ++ four 2) 40 (1 ∷ 7 ∷ 2 ∷ 1 ∷ 2 ∷ [])
    -- optional ids 5, none, 4,294,967,294, 0; the offsets 2 and 3; none, 1, none, 2, 3
    ∷ taken well_known
    (four 6 ++ four 0 ++ (0xff ∷ 0xff ∷ 0xff ∷ 0xff ∷ []) ++ four 1 ++ (1 ∷ 2 ∷ 0 ∷ 3 ∷ 0 ∷ []) ++ four 0 ++ four 2 ++ four 0 ++ four 3 ++ four 4)
    0 (1 ∷ 5 ∷ 0 ∷ 0 ∷ 1 ∷ 4294967294 ∷ 1 ∷ 0 ∷ 1 ∷ 2 ∷ 3 ∷ 0 ∷ 0 ∷ 1 ∷ 1 ∷ 0 ∷ 0 ∷ 1 ∷ 2 ∷ 1 ∷ 3 ∷ [])
    -- no optional id, and no offsets
    ∷ taken well_known (zeros 37) 0 (zeros 19)
    -- slot types 5 and 0; field "a", 1, 2, kind 3 id 4, embedded, tag "t"; field "b", 3, 4, kind 24 id 5, no tag
    ∷ taken structs
    (four 1 ++ four 2 ++ (5 ∷ 0 ∷ []) ++ four 2 ++ letter 97 ++ (1 ∷ 0 ∷ 2 ∷ 0 ∷ 3 ∷ 4 ∷ 0 ∷ 0 ∷ 1 ∷ 1 ∷ []) ++ letter 116 ++ letter 98
    ++ (3 ∷ 0 ∷ 4 ∷ 0 ∷ 24 ∷ 5 ∷ 0 ∷ 0 ∷ 0 ∷ 0 ∷ [])) 295
    (1 ∷ 2 ∷ 5 ∷ 0 ∷ 2 ∷ 18 ∷ 1 ∷ 1 ∷ 2 ∷ 1027 ∷ 1 ∷ 1 ∷ 33 ∷ 1 ∷ 38 ∷ 1 ∷ 3 ∷ 4 ∷ 1304 ∷ 0 ∷ 0 ∷ [])
    -- interface "I", method name "a", method "b" of signature 9
    ∷ taken interfaces (four 1 ++ letter 73 ++ four 1 ++ letter 97 ++ four 1 ++ letter 98 ++ four 9) 195
    (1 ∷ 8 ∷ 1 ∷ 1 ∷ 17 ∷ 1 ∷ 1 ∷ 26 ∷ 1 ∷ 9 ∷ [])
    -- named type "N" with one method "m"
    ∷ taken named_types (four 1 ++ letter 78 ++ (1 ∷ 2 ∷ 0 ∷ 0 ∷ 3 ∷ 4 ∷ 0 ∷ 0 ∷ []) ++ four 1 ++ letter 109 ++ four 5 ++ (1 ∷ 0 ∷ []) ++ four 6) 122
    (1 ∷ 8 ∷ 1 ∷ 513 ∷ 1027 ∷ 1 ∷ 25 ∷ 1 ∷ 5 ∷ 1 ∷ 0 ∷ 6 ∷ [])
    -- Basic, Named, Pointer, Array, Slice, Map, Chan, Func, Struct, Interface, Tuple, Port, Island
    ∷ taken runtime_types (four 1 ++ (0 ∷ 24 ∷ [])) 56 (1 ∷ 0 ∷ 24 ∷ [])
    ∷ taken runtime_types (four 1 ++ (1 ∷ []) ++ four 7 ++ four 9) 56 (1 ∷ 1 ∷ 7 ∷ 1 ∷ 8 ∷ [])
    ∷ taken runtime_types (four 1 ++ (2 ∷ 24 ∷ 0xfe ∷ 0xff ∷ 0xff ∷ [])) 56 (1 ∷ 2 ∷ 4294966808 ∷ [])
    ∷ taken runtime_types (four 1 ++ (3 ∷ 5 ∷ 0 ∷ 0 ∷ 0 ∷ 6 ∷ 0 ∷ 0 ∷ 0 ∷ 1 ∷ 3 ∷ 0 ∷ 0 ∷ [])) 56 (1 ∷ 3 ∷ 5 ∷ 6 ∷ 769 ∷ [])
    ∷ taken runtime_types (four 1 ++ (4 ∷ 1 ∷ 4 ∷ 0 ∷ 0 ∷ [])) 56 (1 ∷ 4 ∷ 1025 ∷ [])
    ∷ taken runtime_types (four 1 ++ (5 ∷ 1 ∷ 5 ∷ 0 ∷ 0 ∷ 1 ∷ 6 ∷ 0 ∷ 0 ∷ [])) 56 (1 ∷ 5 ∷ 1281 ∷ 1537 ∷ [])
    ∷ taken runtime_types (four 1 ++ (6 ∷ 2 ∷ 1 ∷ 7 ∷ 0 ∷ 0 ∷ [])) 56 (1 ∷ 6 ∷ 2 ∷ 1793 ∷ [])
    ∷ taken runtime_types (four 1 ++ (7 ∷ 1 ∷ []) ++ four 1 ++ (1 ∷ 8 ∷ 0 ∷ 0 ∷ []) ++ four 2 ++ (1 ∷ 9 ∷ 0 ∷ 0 ∷ 1 ∷ 10 ∷ 0 ∷ 0 ∷ [])) 68
    (1 ∷ 7 ∷ 1 ∷ 1 ∷ 2049 ∷ 2 ∷ 2305 ∷ 2561 ∷ [])
    ∷ taken runtime_types (four 1 ++ (8 ∷ []) ++ four 11 ++ four 1 ++ letter 102 ++ (1 ∷ 12 ∷ 0 ∷ 0 ∷ []) ++ letter 116 ++ (1 ∷ []) ++ letter 112) 203
    (1 ∷ 8 ∷ 11 ∷ 1 ∷ 17 ∷ 1 ∷ 3073 ∷ 26 ∷ 1 ∷ 1 ∷ 32 ∷ 1 ∷ [])
    ∷ taken runtime_types (four 1 ++ (9 ∷ []) ++ four 13 ++ four 1 ++ letter 109 ++ (1 ∷ 14 ∷ 0 ∷ 0 ∷ [])) 121 (1 ∷ 9 ∷ 13 ∷ 1 ∷ 17 ∷ 1 ∷ 3585 ∷ [])
    ∷ taken runtime_types (four 1 ++ (10 ∷ []) ++ four 1 ++ (1 ∷ 15 ∷ 0 ∷ 0 ∷ [])) 60 (1 ∷ 10 ∷ 1 ∷ 3841 ∷ [])
    ∷ taken runtime_types (four 1 ++ (11 ∷ 1 ∷ 1 ∷ 16 ∷ 0 ∷ 0 ∷ [])) 56 (1 ∷ 11 ∷ 1 ∷ 4097 ∷ [])
    ∷ taken runtime_types (four 1 ++ (12 ∷ [])) 56 (1 ∷ 12 ∷ [])
    -- global "g"
    ∷ taken globals (four 1 ++ letter 103 ++ (1 ∷ 0 ∷ 24 ∷ []) ++ four 2 ++ four 1 ++ (3 ∷ [])) 58 (1 ∷ 8 ∷ 1 ∷ 1 ∷ 24 ∷ 2 ∷ 1 ∷ 3 ∷ [])
    -- a function with each of its fields: three local slots, three slot types; error_ret_slot -1
    ∷ taken functions
    (four 1 ++ letter 102 ++ (1 ∷ 0 ∷ 2 ∷ 0 ∷ 3 ∷ 0 ∷ 4 ∷ 0 ∷ []) ++ four 1 ++ (5 ∷ 6 ∷ 0 ∷ 7 ∷ 0 ∷ 8 ∷ 0 ∷ []) ++ four 1
    ++ (9 ∷ 0 ∷ 1 ∷ 0xff ∷ 0xff ∷ 0xff ∷ 0xff ∷ 1 ∷ []) ++ four 3 ++ (0 ∷ 1 ∷ 2 ∷ []) ++ four 1 ++ (10 ∷ 11 ∷ 12 ∷ 0 ∷ 13 ∷ 0 ∷ 14 ∷ 0 ∷ [])
    ++ four 1 ++ (5 ∷ []) ++ four 15 ++ four 1 ++ (1 ∷ 16 ∷ 0 ∷ 0 ∷ 2 ∷ 17 ∷ 0 ∷ 0 ∷ 18 ∷ 0 ∷ []) ++ four 1 ++ (4 ∷ []) ++ four 1
    ++ (3 ∷ 19 ∷ 0 ∷ 0 ∷ 4 ∷ 20 ∷ 0 ∷ 0 ∷ 21 ∷ 0 ∷ [])) 344
    (1 ∷ 8 ∷ 1 ∷ 1 ∷ 2 ∷ 3 ∷ 4 ∷ 1 ∷ 5 ∷ 6 ∷ 7 ∷ 8 ∷ 1 ∷ 9 ∷ 1 ∷ 4294967295 ∷ 1 ∷ 3 ∷ 0 ∷ 1 ∷ 2 ∷ 1 ∷ 10 ∷ 11 ∷ 12 ∷ 13 ∷ 14 ∷ 1
    ∷ 5 ∷ 15 ∷ 1 ∷ 4097 ∷ 4354 ∷ 18 ∷ 1 ∷ 4 ∷ 1 ∷ 4867 ∷ 5124 ∷ 21 ∷ [])
    -- the metadata None, ElemLayout, MapGet, MapSet, MapDelete, LoopEnd, PtrLayout, SlotLayout, CallLayout,
    -- CallExternLayout, QueueLayout, MapIterNext, IfaceAssertLayout, MapNew, CallIfaceLayout, SelectExecLayout with a
    -- Send and a Recv
    ∷ metadata (0 ∷ []) 0 (0 ∷ [])
    ∷ metadata ((1 ∷ []) ++ four 8 ++ (1 ∷ []) ++ four 1 ++ (1 ∷ [])) 1 (1 ∷ 8 ∷ 1 ∷ 1 ∷ 1 ∷ [])
    ∷ metadata ((2 ∷ []) ++ four 1 ++ (1 ∷ []) ++ four 2 ++ (2 ∷ 3 ∷ 1 ∷ [])) 3 (2 ∷ 1 ∷ 1 ∷ 2 ∷ 2 ∷ 3 ∷ 1 ∷ [])
    ∷ metadata ((3 ∷ []) ++ four 1 ++ (4 ∷ []) ++ four 1 ++ (5 ∷ [])) 2 (3 ∷ 1 ∷ 4 ∷ 1 ∷ 5 ∷ [])
    ∷ metadata ((4 ∷ []) ++ four 2 ++ (0 ∷ 1 ∷ [])) 2 (4 ∷ 2 ∷ 0 ∷ 1 ∷ [])
    ∷ metadata ((5 ∷ []) ++ four 9) 0 (5 ∷ 9 ∷ [])
    ∷ metadata ((9 ∷ []) ++ four 1 ++ (2 ∷ [])) 1 (9 ∷ 1 ∷ 2 ∷ [])
    ∷ metadata ((10 ∷ 10 ∷ 0 ∷ []) ++ four 1 ++ (3 ∷ [])) 1 (10 ∷ 10 ∷ 1 ∷ 3 ∷ [])
    ∷ metadata ((11 ∷ []) ++ four 1 ++ (4 ∷ []) ++ four 2 ++ (5 ∷ 0 ∷ [])) 3 (11 ∷ 1 ∷ 4 ∷ 2 ∷ 5 ∷ 0 ∷ [])
    ∷ metadata ((12 ∷ []) ++ four 1 ++ (1 ∷ []) ++ four 0) 1 (12 ∷ 1 ∷ 1 ∷ 0 ∷ [])
    ∷ metadata ((13 ∷ []) ++ four 1 ++ (2 ∷ [])) 1 (13 ∷ 1 ∷ 2 ∷ [])
    ∷ metadata ((14 ∷ []) ++ four 1 ++ (3 ∷ []) ++ four 1 ++ (4 ∷ [])) 2 (14 ∷ 1 ∷ 3 ∷ 1 ∷ 4 ∷ [])
    ∷ metadata ((15 ∷ 1 ∷ []) ++ four 11 ++ four 1 ++ (5 ∷ [])) 1 (15 ∷ 1 ∷ 11 ∷ 1 ∷ 5 ∷ [])
    ∷ metadata ((16 ∷ []) ++ four 1 ++ (0 ∷ []) ++ four 1 ++ (1 ∷ [])) 2 (16 ∷ 1 ∷ 0 ∷ 1 ∷ 1 ∷ [])
    ∷ metadata ((17 ∷ []) ++ four 12 ++ four 13 ++ four 1 ++ (2 ∷ []) ++ four 1 ++ (3 ∷ [])) 2 (17 ∷ 12 ∷ 13 ∷ 1 ∷ 2 ∷ 1 ∷ 3 ∷ [])
    ∷ metadata ((18 ∷ []) ++ four 2 ++ (0 ∷ 14 ∷ 0 ∷ 15 ∷ 0 ∷ 16 ∷ 0 ∷ 1 ∷ 17 ∷ 0 ∷ 18 ∷ 0 ∷ 19 ∷ 0 ∷ 1 ∷ [])) 16
    (18 ∷ 2 ∷ 0 ∷ 14 ∷ 15 ∷ 16 ∷ 1 ∷ 17 ∷ 18 ∷ 19 ∷ 1 ∷ [])
    -- "the extern count is there"
    ∷ taken externs (four 0) 0 (0 ∷ [])
    -- a payload: start and length
    ∷ taken artifacts (four 1 ++ letter 110 ++ four 3 ++ four 2 ++ (0xff ∷ 0 ∷ [])) 59 (1 ∷ 8 ∷ 1 ∷ 3 ∷ 17 ∷ 2 ∷ [])
    ∷ taken files (four 2 ++ letter 65 ++ four 0) 49 (2 ∷ 8 ∷ 1 ∷ 13 ∷ 0 ∷ [])
    -- a nested list: one location, pc 1 to len 5, line 300; and none
    ∷ taken function_locations (four 2 ++ four 1 ++ (1 ∷ 2 ∷ 0xac ∷ 2 ∷ 4 ∷ 5 ∷ []) ++ four 0) 68 (2 ∷ 1 ∷ 1 ∷ 2 ∷ 300 ∷ 4 ∷ 5 ∷ 0 ∷ [])
    -- two frames, with a span and without; one function of one entry
    ∷ taken_by 1 inline_sources
    (four 2 ++ (0xff ∷ 0xff ∷ 0xff ∷ 0xff ∷ []) ++ four 1 ++ (1 ∷ []) ++ four 2 ++ four 3 ++ four 4 ++ four 5 ++ four 0 ++ four 6 ++ (0 ∷ [])
    ++ four 1 ++ four 7 ++ four 1 ++ four 8 ++ four 9) 96 (2 ∷ 4294967295 ∷ 1 ∷ 1 ∷ 2 ∷ 3 ∷ 4 ∷ 5 ∷ 0 ∷ 6 ∷ 0 ∷ 1 ∷ 7 ∷ 1 ∷ 8 ∷ 9 ∷ [])
    ∷ []

-- "The number is given when the answer is no."
abbrev pub refusal_rows : List Reading
refusal_rows =
    -- 2: the length's bytes are not there; the text's
    refused name (zeros 3) 10000 (refusal 2 0 0 0 0 10000)
    ∷ refused name (four 2 ++ (65 ∷ [])) 10000 (refusal 2 0 0 0 4 10000)
    -- 6: after the charge
    ∷ refused name (four 2 ++ (0xc3 ∷ 65 ∷ [])) 10000 (refusal 6 0 0 0 6 9998)
    -- 7, of a bool and of an optional part; 8, 9: d1 the byte
    ∷ refused constants (four 1 ++ (1 ∷ 2 ∷ [])) 10000 (refusal 7 0 2 0 6 9976)
    ∷ refused well_known (zeros 16 ++ (2 ∷ [])) 10000 (refusal 7 0 2 0 17 10000)
    ∷ refused structs (four 1 ++ four 1 ++ (6 ∷ [])) 10000 (refusal 8 0 6 0 9 9903)
    ∷ refused runtime_types (four 1 ++ (0 ∷ 25 ∷ [])) 10000 (refusal 9 0 25 0 6 9944)
    -- 10 and 11: d1 the word, whose upper 24 bits are FFFFFF hexadecimal; its low byte is no kind: 9, d1 that byte
    ∷ refused named_types (four 1 ++ four 0 ++ (24 ∷ 0xff ∷ 0xff ∷ 0xff ∷ [])) 10000 (refusal 10 0 0xffffff18 0 12 9944)
    ∷ refused runtime_types (four 1 ++ (2 ∷ 24 ∷ 0xff ∷ 0xff ∷ 0xff ∷ [])) 10000 (refusal 11 0 0xffffff18 0 9 9944)
    ∷ refused runtime_types (four 1 ++ (2 ∷ 25 ∷ 0xff ∷ 0xff ∷ 0xff ∷ [])) 10000 (refusal 9 0 25 0 9 9944)
    -- 12, 13: d1 the byte
    ∷ refused runtime_types (four 1 ++ (6 ∷ 3 ∷ [])) 10000 (refusal 12 0 3 0 6 9944)
    ∷ refused runtime_types (four 1 ++ (13 ∷ [])) 10000 (refusal 13 0 13 0 5 9944)
    -- 14: no d1
    ∷ refused constants (four 1 ++ (5 ∷ [])) 10000 (refusal 14 0 0 0 5 9976)
    -- 15: a metadata tag, a select case, an assert kind, one instruction and no metadata, one metadata and no
    -- instruction
    ∷ refused functions (instructed (6 ∷ [])) 10000 (refusal 15 0 0 0 57 9688)
    ∷ refused functions (instructed (8 ∷ [])) 10000 (refusal 15 0 0 0 57 9688)
    ∷ refused functions (instructed (19 ∷ [])) 10000 (refusal 15 0 0 0 57 9688)
    ∷ refused functions (instructed ((18 ∷ []) ++ four 1 ++ (2 ∷ []))) 10000 (refusal 15 0 0 0 62 9680)
    ∷ refused functions (instructed (15 ∷ 2 ∷ [])) 10000 (refusal 15 0 0 0 58 9688)
    ∷ refused functions (four 1 ++ zeros 36 ++ four 1 ++ zeros 8 ++ four 0) 10000 (refusal 15 0 0 0 56 9752)
    ∷ refused functions (four 1 ++ zeros 36 ++ four 0 ++ four 1 ++ (0 ∷ [])) 10000 (refusal 15 0 0 0 49 9696)
    -- 20: "c 1 capture meta, 2 capture rttid, 3 parameter meta, 4 parameter rttid, 5 count; d1 index, d2 word"
    ∷ refused functions (four 1 ++ zeros 44 ++ four 2 ++ zeros 10 ++ (25 ∷ 0 ∷ 0 ∷ 0 ∷ 0 ∷ 0 ∷ 0 ∷ 0 ∷ 0 ∷ 0 ∷ [])) 10000 (refusal 20 1 1 25 72 9736)
    ∷ refused functions (four 1 ++ zeros 44 ++ four 1 ++ (0 ∷ 0 ∷ 0 ∷ 0 ∷ 25 ∷ 0 ∷ 0 ∷ 0 ∷ 0 ∷ 0 ∷ [])) 10000 (refusal 20 2 0 25 62 9748)
    ∷ refused functions (four 1 ++ zeros 44 ++ four 0 ++ four 0 ++ four 1 ++ (24 ∷ 0xff ∷ 0xff ∷ 0xff ∷ 0 ∷ 0 ∷ 0 ∷ 0 ∷ 0 ∷ 0 ∷ [])) 10000
    (refusal 20 3 0 0xffffff18 70 9748)
    ∷ refused functions (four 1 ++ zeros 44 ++ four 0 ++ four 0 ++ four 2 ++ zeros 10 ++ (0 ∷ 0 ∷ 0 ∷ 0 ∷ 24 ∷ 0xff ∷ 0xff ∷ 0xff ∷ 0 ∷ 0 ∷ [])) 10000
    (refusal 20 4 1 0xffffff18 80 9736)
    -- "for 5 slot types, then `local_slots`"
    ∷ refused functions (four 1 ++ zeros 8 ++ (2 ∷ 0 ∷ []) ++ zeros 22 ++ four 1 ++ (0 ∷ []) ++ zeros 20) 10000 (refusal 20 5 1 2 61 9759)
    -- 21
    ∷ refused function_locations (four 1 ++ four 1 ++ (0x80 ∷ 0 ∷ [])) 10000 (refusal 21 0 0 0 10 9956)
    ∷ []

-- the bare pack up to its extern count
abbrev to_externs : List ℕ
to_externs = head ++ zeros 73

-- "The bytes-left question now comes first, the budget second, HostCalls third."
abbrev pub extern_rows : List Reading
extern_rows =
    -- "a count above the bytes left was 25 and is 2"
    pack_refused (to_externs ++ four 1) (refusal 2 0 0 0 84 536870912)
    ∷ pack_refused (to_externs ++ (0xff ∷ 0xff ∷ 0xff ∷ 0xff ∷ []) ++ zeros 31) (refusal 2 0 0 0 84 536870912)
    ∷ refused externs (four 4 ++ zeros 3) 10000 (refusal 2 0 0 0 4 10000)
    ∷ refused externs (four 4 ++ zeros 3) 0 (refusal 2 0 0 0 4 0)
    -- "A pack still refused with 25 now shows the budget left after that charge": 144 for each extern
    ∷ pack_refused (to_externs ++ four 1 ++ zeros 1) (refusal 25 0 1 0 84 536870768)
    ∷ pack_refused (to_externs ++ four 1 ++ zeros 31) (refusal 25 0 1 0 84 536870768)
    ∷ refused externs (four 4 ++ zeros 4) 10000 (refusal 25 0 4 0 4 9424)
    ∷ refused externs (four 4 ++ zeros 5) 10000 (refusal 25 0 4 0 4 9424)
    -- "a count within them whose charge can't be paid was 25 and is 5": one short of the charge, and exactly it
    ∷ refused externs (four 4 ++ zeros 4) 575 (refusal 5 2 576 575 4 575)
    ∷ refused externs (four 4 ++ zeros 4) 576 (refusal 25 0 4 0 4 0)
    -- "All other answers are as before": the count word is cut; the count is 0
    ∷ pack_refused (to_externs ++ zeros 3) (refusal 2 0 0 0 80 536870912)
    ∷ pack_refused (to_externs ++ four 0) (refusal 2 0 0 0 84 536870912)
    ∷ []

-- "is the charge affordable? 5 (c context, d1 asked, d2 left)": the budget ends where the charge stands.
abbrev pub context_rows : List Reading
context_rows =
    -- 1 byte string, 2 vector
    refused name (letter 65) 0 (refusal 5 1 1 0 5 0)
    ∷ refused itabs (four 1 ++ zeros 8) 0 (refusal 5 2 32 0 4 0)
    -- 3 struct field index, 4 its key: after the struct, its field and the field's name
    ∷ refused structs (four 1 ++ four 0 ++ four 1 ++ letter 97 ++ zeros 10) 161 (refusal 5 3 32 0 27 0)
    ∷ refused structs (four 1 ++ four 0 ++ four 1 ++ letter 97 ++ zeros 10) 193 (refusal 5 4 1 0 27 0)
    -- 5 interface method identity set
    ∷ refused interfaces (four 1 ++ four 0 ++ four 1 ++ letter 97 ++ four 0) 97 (refusal 5 5 32 0 21 0)
    -- 6 named method map
    ∷ refused named_types (four 1 ++ zeros 12 ++ four 1 ++ zeros 14) 56 (refusal 5 6 64 0 20 0)
    -- 7 runtime struct field identity set
    ∷ refused runtime_types (four 1 ++ (8 ∷ []) ++ four 0 ++ four 1 ++ letter 97 ++ zeros 9 ++ letter 98) 138 (refusal 5 7 64 0 32 0)
    -- 8 module artifacts, 9 artifact name, 10 payload
    ∷ refused artifacts (four 1) 0 (refusal 5 8 56 0 4 0)
    ∷ refused artifacts (four 1 ++ letter 110) 56 (refusal 5 9 1 0 9 0)
    ∷ refused artifacts (four 1 ++ letter 110 ++ four 0 ++ letter 0) 57 (refusal 5 10 1 0 18 0)
    ∷ []

-- "Names new in their table? 16 struct fields, 17 interface methods, 18 named methods, 19 runtime struct fields by
-- package and name (d1, d2 start and length of the repeat; c in 19 the package text's start). "_" is exempt in 16 and
-- 19."
abbrev pub name_rows : List Reading
name_rows =
    -- the third repeats the first: struct fields, an interface's names, its methods, a runtime interface's, a named
    -- type's, runtime struct fields
    refused structs (four 1 ++ four 0 ++ four 3 ++ letter 97 ++ zeros 10 ++ letter 98 ++ zeros 10 ++ letter 97 ++ zeros 10) 10000
    (refusal 16 0 46 1 57 9610)
    ∷ refused interfaces (four 1 ++ four 0 ++ four 3 ++ letter 97 ++ letter 98 ++ letter 97 ++ four 0) 10000 (refusal 17 0 26 1 31 9757)
    ∷ refused interfaces (four 1 ++ four 0 ++ four 0 ++ four 3 ++ letter 97 ++ zeros 4 ++ letter 98 ++ zeros 4 ++ letter 97 ++ zeros 4) 10000
    (refusal 17 0 38 1 43 9733)
    ∷ refused runtime_types (four 1 ++ (9 ∷ []) ++ four 0 ++ four 3 ++ letter 97 ++ zeros 4 ++ letter 98 ++ zeros 4 ++ letter 97 ++ zeros 4) 10000
    (refusal 17 0 35 1 40 9749)
    ∷ refused named_types (four 1 ++ zeros 12 ++ four 3 ++ letter 97 ++ zeros 10 ++ letter 98 ++ zeros 10 ++ letter 97 ++ zeros 10) 10000
    (refusal 18 0 54 1 65 9749)
    ∷ refused runtime_types
    (four 1 ++ (8 ∷ []) ++ four 0 ++ four 3 ++ letter 97 ++ zeros 9 ++ letter 112 ++ letter 98 ++ zeros 9 ++ letter 112 ++ letter 97 ++ zeros 9
    ++ letter 112) 10000 (refusal 19 69 55 1 70 9506)
    -- where an interface's names and its methods both repeat, the names are judged first
    ∷ refused interfaces (four 1 ++ four 0 ++ four 2 ++ letter 97 ++ letter 97 ++ four 2 ++ letter 97 ++ zeros 4 ++ letter 97 ++ zeros 4) 10000
    (refusal 17 0 21 1 44 9748)
    -- "ab" repeats "ab"; "a", "ab" and "b" are new; so is a name in another package, and another name in a package
    ∷ refused structs (four 1 ++ four 0 ++ four 2 ++ (2 ∷ 0 ∷ 0 ∷ 0 ∷ 97 ∷ 98 ∷ []) ++ zeros 10 ++ (2 ∷ 0 ∷ 0 ∷ 0 ∷ 97 ∷ 98 ∷ []) ++ zeros 10) 10000
    (refusal 16 0 32 2 44 9704)
    ∷ taken structs (four 1 ++ four 0 ++ four 3 ++ letter 97 ++ zeros 10 ++ (2 ∷ 0 ∷ 0 ∷ 0 ∷ 97 ∷ 98 ∷ []) ++ zeros 10 ++ letter 98 ++ zeros 10) 392
    (1 ∷ 0 ∷ 3 ∷ 16 ∷ 1 ∷ 0 ∷ 0 ∷ 0 ∷ 0 ∷ 0 ∷ 31 ∷ 2 ∷ 0 ∷ 0 ∷ 0 ∷ 0 ∷ 0 ∷ 47 ∷ 1 ∷ 0 ∷ 0 ∷ 0 ∷ 0 ∷ 0 ∷ [])
    ∷ taken runtime_types
    (four 1 ++ (8 ∷ []) ++ four 0 ++ four 3 ++ letter 97 ++ zeros 9 ++ letter 112 ++ letter 97 ++ zeros 9 ++ letter 113 ++ letter 98 ++ zeros 9
    ++ letter 112) 494
    (1 ∷ 8 ∷ 0 ∷ 3 ∷ 17 ∷ 1 ∷ 0 ∷ 26 ∷ 0 ∷ 0 ∷ 31 ∷ 1 ∷ 36 ∷ 1 ∷ 0 ∷ 45 ∷ 0 ∷ 0 ∷ 50 ∷ 1 ∷ 55 ∷ 1 ∷ 0 ∷ 64 ∷ 0 ∷ 0 ∷ 69 ∷ 1 ∷ [])
    -- two "_" are taken as struct fields, which then have no key, and as runtime struct fields
    ∷ taken structs (four 1 ++ four 0 ++ four 2 ++ letter 95 ++ zeros 10 ++ letter 95 ++ zeros 10) 226
    (1 ∷ 0 ∷ 2 ∷ 16 ∷ 1 ∷ 0 ∷ 0 ∷ 0 ∷ 0 ∷ 0 ∷ 31 ∷ 1 ∷ 0 ∷ 0 ∷ 0 ∷ 0 ∷ 0 ∷ [])
    ∷ taken runtime_types (four 1 ++ (8 ∷ []) ++ four 0 ++ four 2 ++ letter 95 ++ zeros 9 ++ letter 112 ++ letter 95 ++ zeros 9 ++ letter 112) 348
    (1 ∷ 8 ∷ 0 ∷ 2 ∷ 17 ∷ 1 ∷ 0 ∷ 26 ∷ 0 ∷ 0 ∷ 31 ∷ 1 ∷ 36 ∷ 1 ∷ 0 ∷ 45 ∷ 0 ∷ 0 ∷ 50 ∷ 1 ∷ [])
    -- and refused as an interface's names and its methods, a runtime interface's, a named type's; two "__" as struct
    -- fields too
    ∷ refused interfaces (four 1 ++ four 0 ++ four 2 ++ letter 95 ++ letter 95 ++ four 0) 10000 (refusal 17 0 21 1 26 9814)
    ∷ refused interfaces (four 1 ++ four 0 ++ four 0 ++ four 2 ++ letter 95 ++ zeros 4 ++ letter 95 ++ zeros 4) 10000 (refusal 17 0 29 1 34 9798)
    ∷ refused runtime_types (four 1 ++ (9 ∷ []) ++ four 0 ++ four 2 ++ letter 95 ++ zeros 4 ++ letter 95 ++ zeros 4) 10000 (refusal 17 0 26 1 31 9814)
    ∷ refused named_types (four 1 ++ zeros 12 ++ four 2 ++ letter 95 ++ zeros 10 ++ letter 95 ++ zeros 10) 10000 (refusal 18 0 39 1 50 9814)
    ∷ refused structs (four 1 ++ four 0 ++ four 2 ++ (2 ∷ 0 ∷ 0 ∷ 0 ∷ 95 ∷ 95 ∷ []) ++ zeros 10 ++ (2 ∷ 0 ∷ 0 ∷ 0 ∷ 95 ∷ 95 ∷ []) ++ zeros 10) 10000
    (refusal 16 0 32 2 44 9704)
    ∷ []

-- "Each is put right after the length word, before bytes and charge": at the limit it is the next question that is
-- answered no, one past it 22 or 23.
abbrev pub limit_rows : List Reading
limit_rows =
    -- "Artifacts at most 64, name 128, payload 16,777,216 bytes? 22"; 64 artifacts are charged, and the first name is
    -- not there
    refused artifacts (four 64) 10000 (refusal 2 0 0 0 4 6416)
    ∷ refused artifacts (four 65) 10000 (refusal 22 11 65 64 4 10000)
    ∷ refused artifacts (four 1 ++ four 128) 10000 (refusal 2 0 0 0 8 9944)
    ∷ refused artifacts (four 1 ++ four 129) 10000 (refusal 22 9 129 128 8 9944)
    ∷ refused artifacts (four 1 ++ zeros 8 ++ (0 ∷ 0 ∷ 0 ∷ 1 ∷ [])) 10000 (refusal 2 0 0 0 16 9944)
    ∷ refused artifacts (four 1 ++ zeros 8 ++ (1 ∷ 0 ∷ 0 ∷ 1 ∷ [])) 10000 (refusal 22 10 16777217 16777216 16 9944)
    -- "frames at most 131,072; functions at most the smaller of that and the function count": of 200,000 functions, of
    -- 3
    ∷ refused_by 0 inline_sources (0 ∷ 0 ∷ 2 ∷ 0 ∷ []) 10000 (refusal 2 0 0 0 4 10000)
    ∷ refused_by 0 inline_sources (1 ∷ 0 ∷ 2 ∷ 0 ∷ []) 10000 (refusal 23 12 131073 131072 4 10000)
    ∷ refused_by 200000 inline_sources (four 0 ++ (0 ∷ 0 ∷ 2 ∷ 0 ∷ [])) 10000 (refusal 2 0 0 0 8 10000)
    ∷ refused_by 200000 inline_sources (four 0 ++ (1 ∷ 0 ∷ 2 ∷ 0 ∷ [])) 10000 (refusal 23 13 131073 131072 8 10000)
    ∷ refused_by 3 inline_sources (four 0 ++ four 3) 10000 (refusal 2 0 0 0 8 10000)
    ∷ refused_by 3 inline_sources (four 0 ++ four 4) 10000 (refusal 23 13 4 3 8 10000)
    -- "entries share 131,072": of one function; of a second after one entry of the first
    ∷ refused_by 2 inline_sources (four 0 ++ four 1 ++ four 0 ++ (0 ∷ 0 ∷ 2 ∷ 0 ∷ [])) 10000 (refusal 2 0 0 0 16 9968)
    ∷ refused_by 2 inline_sources (four 0 ++ four 1 ++ four 0 ++ (1 ∷ 0 ∷ 2 ∷ 0 ∷ [])) 10000 (refusal 23 14 131073 131072 16 9968)
    ∷ refused_by 2 inline_sources (four 0 ++ four 2 ++ four 0 ++ four 1 ++ zeros 12 ++ (0xff ∷ 0xff ∷ 1 ∷ 0 ∷ [])) 10000 (refusal 2 0 0 0 32 9928)
    ∷ refused_by 2 inline_sources (four 0 ++ four 2 ++ four 0 ++ four 1 ++ zeros 12 ++ (0 ∷ 0 ∷ 2 ∷ 0 ∷ [])) 10000 (refusal 23 14 131072 131071 32 9928)
    ∷ []

-- The charge list of a section call.
abbrev charged : Section → List ℕ → List ℕ → Row (List ℕ)
charged x s ns = record { given = amounts (section_trace settings 0 x s 0); expected = ns }

-- "write down each charge, 0 included, where its 5 would stand"
abbrev pub charge_lists : List (Row (List ℕ))
charge_lists =
    -- two fields "a": "charged just before that name is compared with earlier ones", the repeat's key too
    charged structs (four 1 ++ four 0 ++ four 2 ++ letter 97 ++ zeros 10 ++ letter 97 ++ zeros 10) (96 ∷ 0 ∷ 128 ∷ 1 ∷ 1 ∷ 64 ∷ 1 ∷ 1 ∷ [])
    -- both lists, then the first set is charged and judged
    ∷ charged interfaces (four 1 ++ four 0 ++ four 2 ++ letter 97 ++ letter 97 ++ four 2 ++ letter 97 ++ zeros 4 ++ letter 97 ++ zeros 4)
    (72 ∷ 0 ∷ 48 ∷ 1 ∷ 1 ∷ 64 ∷ 1 ∷ 1 ∷ 64 ∷ [])
    -- "2 if the method count exceeds bytes left divided by 14, before the charge": one method and 13 bytes, 14 bytes
    ∷ charged named_types (four 1 ++ zeros 12 ++ four 1 ++ zeros 13) (56 ∷ 0 ∷ [])
    ∷ charged named_types (four 1 ++ zeros 12 ++ four 1 ++ zeros 14) (56 ∷ 0 ∷ 64 ∷ 0 ∷ [])
    -- two fields "a" of package "b": all fields in one charge
    ∷ charged runtime_types (four 1 ++ (8 ∷ []) ++ four 0 ++ four 2 ++ letter 97 ++ zeros 9 ++ letter 98 ++ letter 97 ++ zeros 9 ++ letter 98)
    (56 ∷ 160 ∷ 1 ∷ 0 ∷ 1 ∷ 1 ∷ 0 ∷ 1 ∷ 128 ∷ [])
    -- a count above the bytes left is refused before its charge; one equal to them is charged
    ∷ charged itabs (four 2 ++ zeros 1) []
    ∷ charged itabs (four 1 ++ zeros 1) (32 ∷ [])
    -- so it is with externs; a count of 0 is charged
    ∷ charged externs (four 2 ++ zeros 1) []
    ∷ charged externs (four 1 ++ zeros 1) (144 ∷ [])
    ∷ charged externs (four 0) (0 ∷ [])
    -- "Artifact count is never held against the bytes left."
    ∷ charged artifacts (four 64) (3584 ∷ [])
    ∷ []

-- The lookup: start and length, or number, c, d1, d2, place, left.
abbrev finds : List ℕ → List ℕ → Found → Row Found
finds s x f = record { given = find_outcome settings s x; expected = f }

abbrev missing : ℕ → ℕ → ℕ → ℕ → ℕ → ℕ → Found
missing e c d1 d2 p l = Not (record { number = e; context = c; detail1 = d1; detail2 = d2 }) p l

-- the bare pack with two artifacts "n", of the payloads 1 and 2 3
abbrev two_artifacts : List ℕ
two_artifacts = head ++ zeros 85 ++ four 2 ++ letter 110 ++ four 1 ++ four 1 ++ (1 ∷ []) ++ letter 110 ++ four 2 ++ four 2 ++ (2 ∷ 3 ∷ []) ++ zeros 16

-- "the payload of the first artifact with exactly these name bytes"
abbrev pub lookups : List (Row Found)
lookups =
    -- the first of two
    finds two_artifacts (110 ∷ []) (At 109 1)
    -- "Such an artifact? 27"; the name's own bytes and no others
    ∷ finds two_artifacts (109 ∷ []) (missing 27 0 0 0 141 536870795)
    ∷ finds two_artifacts (110 ∷ 110 ∷ []) (missing 27 0 0 0 141 536870795)
    -- a pack that is refused
    ∷ finds [] (110 ∷ []) (missing 2 0 0 0 0 536870912)
    ∷ []

pub examples-hold : Hold pack_rows × Hold record_rows × Hold refusal_rows × Hold extern_rows × Hold context_rows × Hold name_rows × Hold limit_rows × Hold charge_lists × Hold lookups
unfolding amounts find_outcome look_in part_of read_outcome section_outcome whole_trace section_trace settle trace trace_leaf trace_ask trace_packed packed_step field room guard bind pick little same chain items words words_leaf size_of Questions.among Questions.named Questions.field_keys Questions.new_names Questions.among_identities Questions.new_identities Questions.transfer_words Grammar.struct_field Grammar.interface_method Grammar.method Grammar.new_method Grammar.runtime_field Grammar.runtime_method Grammar.error_types Grammar.object_interfaces Grammar.constant Grammar.select_case Grammar.instruction Grammar.transfer Grammar.function_head Grammar.function_traits Grammar.location Grammar.span Grammar.frame Grammar.inline_entry Grammar.struct Grammar.interface Grammar.methods Grammar.named_type Grammar.itab Grammar.runtime_struct Grammar.runtime_interface Grammar.runtime_type Grammar.global Grammar.metadata Grammar.code Grammar.transfers Grammar.function_returns Grammar.function_body Grammar.function Grammar.artifact Grammar.inline_function Grammar.inline_frames Grammar.inline_functions Grammar.section Grammar.after_functions Grammar.sections Grammar.pack
examples-hold = (refl, refl, refl, refl, refl, refl, refl, refl, refl)

-- "Length at most 134,217,728? 1 (d1 length, d2 maximum)": any longer pack, at once, with the place and budget as
-- given.
guard_large : {A : Type 0} (n : ℕ) (w : Wrong) (p b : ℕ) (t : Trace A) → 134217728 < n
    → settle b (guard (leb n max_pack_bytes) w p t) ≡ of.refused w p b
unfolding settle guard
guard_large n w p b t h = go (leb n max_pack_bytes) (leb→le n max_pack_bytes)
  where
    go : (d : Bool) → (T d → n ≤ max_pack_bytes) → settle b (guard d w p t) ≡ of.refused w p b
    go true k = let i = k tt in absurd (omega arith)
    go false k = refl

module _ (set : Settings) (s : List ℕ) (b : ℕ) (t : List ℕ) (h : 134217728 < length s) where
  pub pack-too-large : read_outcome set s b t ≡ untouched t (refusal 1 0 (length s) 134217728 0 b)
  unfolding read_outcome whole_trace
  pack-too-large = ap (closing (Grammar.pack set) 0 b t) (guard_large (length s) _ 0 b _ h)

  pub section-too-large : (n : ℕ) (x : Section) (p : ℕ)
      → section_outcome set n x s p b t ≡ untouched t (refusal 1 0 (length s) 134217728 p b)
  unfolding section_outcome section_trace
  section-too-large n x p = ap (closing (Grammar.section set n x) p b t) (guard_large (length s) _ p b _ h)
