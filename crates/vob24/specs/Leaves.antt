-- The rules and leaves of the pack, its lists, and its variants.
use Rattle.std.specs.Prelude.{ℕ, ◌/◌, ◌%◌, List, [], ◌∷◌, Bool, true, false, get_or, leb, ltb}
use Rattle.format.specs.Trace.{wrong, pick}
use Rattle.format.specs.Format.{number, Rule, byte, half, word, long, option, Leaf, fixed, mark, packed, string, count, Format, empty, leaf, seq, times}
use Rattle.vob24.specs.Refusals.{invalid_magic, unsupported_version, invalid_boolean, invalid_slot_type, invalid_value_kind, invalid_packed_value_meta, invalid_packed_value_rttid, invalid_chan_dir, byte_string, vector}
use Rattle.vob24.specs.Utf8.{well_formed}

-- A rule that asks nothing.
abbrev pub free : Rule
free = record { test = λ n. true; why = λ n. wrong 0 0 }

-- "Each: d1 the byte, except 14."
abbrev pub at_most : ℕ → ℕ → Rule
at_most m e = record { test = λ n. leb n m; why = λ n. wrong e n }

abbrev pub at_most_bare : ℕ → ℕ → Rule
at_most_bare m e = record { test = λ n. leb n m; why = λ n. wrong e 0 }

-- A limit: number, context, maximum. "(c context, d1 length, d2 maximum.)"
abbrev pub limit : ℕ → ℕ → ℕ → Rule
limit e c m = record { test = λ n. leb n m; why = λ n. record { number = e; context = c; detail1 = n; detail2 = m } }

-- "Kind 0..24?"
abbrev pub kind_ok : ℕ → Bool
kind_ok n = leb (n % 256) 24

-- "Packed word: low byte a kind? Upper 24 bits not FFFFFF hexadecimal?"
abbrev pub packed_ok : ℕ → Bool
packed_ok n = pick (kind_ok n) (ltb (n / 256) 0xffffff) false

-- The kind is tested before the id: "9 (d1 that byte)", else the number given, "(d1 the word)".
abbrev pub packed_word : ℕ → Rule
packed_word e = record { test = packed_ok; why = λ n. pick (kind_ok n) (wrong e n) (wrong invalid_value_kind (n % 256)) }

-- "Magic "VOB"? 3."
abbrev pub magic_mark : Leaf
magic_mark = mark (86 ∷ 79 ∷ 66 ∷ []) (λ _. wrong invalid_magic 0)

-- "Version 24? 4 (d1 the version read)."
abbrev pub version_mark : Leaf
version_mark = mark (24 ∷ 0 ∷ 0 ∷ 0 ∷ []) (λ n. wrong unsupported_version n)

abbrev pub u8 : Format
u8 = leaf (fixed byte free)

abbrev pub u16 : Format
u16 = leaf (fixed half free)

-- also i32, whose bits these are
abbrev pub u32 : Format
u32 = leaf (fixed word free)

-- also i64 and f64, whose bits these are
abbrev pub u64 : Format
u64 = leaf (fixed long free)

-- "An optional id is 0 for absent, else id plus 1."
abbrev pub optional_id : Format
optional_id = leaf (fixed option free)

abbrev pub bool : Format
bool = leaf (fixed byte (at_most 1 invalid_boolean))

abbrev pub slot_type : Format
slot_type = leaf (fixed byte (at_most 5 invalid_slot_type))

abbrev pub value_kind : Format
value_kind = leaf (fixed byte (at_most 24 invalid_value_kind))

abbrev pub direction : Format
direction = leaf (fixed byte (at_most 2 invalid_chan_dir))

abbrev pub value_meta : Format
value_meta = leaf (fixed word (packed_word invalid_packed_value_meta))

abbrev pub value_rttid : Format
value_rttid = leaf (fixed word (packed_word invalid_packed_value_rttid))

-- a packed number: `read_source_u32`
abbrev pub source_u32 : Format
source_u32 = leaf packed

abbrev pub str : Format
str = leaf (string free byte_string well_formed)

-- The name of a struct's field, an interface's method or a named type's method.
abbrev pub member_name : Format
member_name = str

-- A list: its count held to a rule, its entry's size, its entry.
abbrev pub list_of : Rule → ℕ → Format → Format
list_of r z f = seq (leaf (count r 1 vector z)) (λ n. times f (number n))

-- A variant: its tag held to a rule, and the part for each tag.
abbrev pub choose : Rule → List Format → Format
choose r fs = seq (leaf (fixed byte r)) (λ tag. get_or fs (number tag) empty)

-- An optional part: a bool, and the part where it is true.
abbrev pub optional : Format → Format
optional f = choose (at_most 1 invalid_boolean) (empty ∷ f ∷ [])
