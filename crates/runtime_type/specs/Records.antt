-- The record of a runtime type, as a function of the place and the value that was read there.
use Rattle.std.specs.Prelude.{ℕ, zero, suc, ◌+◌, ◌*◌, List, [], ◌∷◌, eqb, get_or, Option, Some, None}
use Rattle.format.specs.Format.{Value, number, counted, Format, ◌▸◌}
use Rattle.vob24.specs.Settings as of
use Rattle.vob24.specs.Settings.{Settings}
use Rattle.vob24.specs.Leaves.{u32, u64, optional_id, bool, direction, value_rttid}
use Rattle.vob24.specs.Fields as of-value
use Rattle.vob24.specs.Fields.{variant_of}
use Rattle.vob24.specs.Grammar as vob
use Rattle.reader.specs.Recorded.{no_list}
use Rattle.runtime_type.specs.Numbered.{kind_at, dir_at}
use Rattle.runtime_type.specs.declared.kinds.ChanDir.{ChanDir}
use Rattle.runtime_type.specs.declared.RuntimeType.{RuntimeType}
use Rattle.runtime_type.specs.declared.RuntimeType.TheVariants as kind
use Rattle.lists.specs.Records.{bare_of}
use Rattle.lists.specs.declared.WithLists.{WithLists}

-- ---- the formats

abbrev pub type_format : Settings → Format
type_format set = vob.runtime_type set

abbrev pub type_list : Settings → Format
type_list set = vob.list set of.RuntimeType (type_format set)

abbrev pub rttid_list : Settings → Format
rttid_list set = vob.rttids set

abbrev pub named_format : Format
named_format = u32 ▸ optional_id

abbrev pub array_format : Format
array_format = u64 ▸ value_rttid

abbrev pub map_format : Format
map_format = value_rttid ▸ value_rttid

abbrev pub directed_format : Format
directed_format = direction ▸ value_rttid

abbrev pub func_format : Settings → Format
func_format set = bool ▸ (rttid_list set) ▸ (rttid_list set)

abbrev pub struct_format : Settings → Format
struct_format set = vob.runtime_struct set

abbrev pub interface_format : Settings → Format
interface_format set = vob.runtime_interface set

abbrev pub RuntimeTypeRecord : Type 0
RuntimeTypeRecord = WithLists RuntimeType

-- ---- the records: p is the place after the tag, v the value there

-- "An optional id is 0 for absent, else id plus 1."
unfoldable pub optional_of : ℕ → Option ℕ
optional_of zero = None
optional_of (suc n) = Some n

-- one list of n entries, whose count stands at p
abbrev pub listed_at : RuntimeType → ℕ → ℕ → RuntimeTypeRecord
listed_at k p n = record { kind = k; first = record { start = p + 4; count = n }; second = no_list }

abbrev pub one_of : RuntimeType → ℕ → Value → RuntimeTypeRecord
one_of k p v = listed_at k p (counted v)

-- two lists, of m and n entries, whose counts stand at p and q
abbrev pub two_listed : RuntimeType → ℕ → ℕ → ℕ → ℕ → RuntimeTypeRecord
two_listed k p m q n = record { kind = k; first = record { start = p + 4; count = m }; second = record { start = q + 4; count = n } }

-- the place after n rttids, whose count stands at p: each is four bytes
abbrev pub past_rttids : ℕ → ℕ → ℕ
past_rttids p n = p + 4 + 4 * n

-- two lists of rttids, one after the other
abbrev pub two_of : RuntimeType → ℕ → ℕ → ℕ → RuntimeTypeRecord
two_of k p m n = two_listed k p m (past_rttids p m) n

abbrev pub basic_of : ℕ → Value → RuntimeTypeRecord
basic_of p v = bare_of (kind.Basic (kind_at (number v)))

abbrev pub named_of : ℕ → Value → RuntimeTypeRecord
named_of p v = let x = of-value.named_of v in bare_of (kind.Named (number x.id) (optional_of (number x.struct_meta_id)))

abbrev pub pointer_of : ℕ → Value → RuntimeTypeRecord
pointer_of p v = bare_of (kind.Pointer (number v))

abbrev pub array_of : ℕ → Value → RuntimeTypeRecord
array_of p v = let x = of-value.array_of v in bare_of (kind.Array (number x.len) (number x.elem))

abbrev pub slice_of : ℕ → Value → RuntimeTypeRecord
slice_of p v = bare_of (kind.Slice (number v))

abbrev pub map_of : ℕ → Value → RuntimeTypeRecord
map_of p v = let x = of-value.map_of v in bare_of (kind.Map (number x.key) (number x.val))

abbrev pub directed_of : ℕ → Value → ChanDir × ℕ
directed_of p v = let x = of-value.chan_of v in (dir_at (number x.dir), number x.elem)

abbrev pub chan_of : ℕ → Value → RuntimeTypeRecord
chan_of p v = let x = of-value.chan_of v in bare_of (kind.Chan (dir_at (number x.dir)) (number x.elem))

abbrev pub func_of : ℕ → Value → RuntimeTypeRecord
func_of p v = let x = of-value.func_of v in two_of (kind.Func (eqb (number x.variadic) 1)) (p + 1) (counted x.params) (counted x.results)

abbrev pub struct_of : ℕ → Value → RuntimeTypeRecord
struct_of p v = let x = of-value.runtime_struct_of v in one_of (kind.Struct (number x.meta_id)) (p + 4) x.fields

abbrev pub interface_of : ℕ → Value → RuntimeTypeRecord
interface_of p v = let x = of-value.runtime_interface_of v in one_of (kind.Interface (number x.meta_id)) (p + 4) x.methods

abbrev pub tuple_of : ℕ → Value → RuntimeTypeRecord
tuple_of p v = one_of kind.Tuple p v

abbrev pub port_of : ℕ → Value → RuntimeTypeRecord
port_of p v = let x = of-value.chan_of v in bare_of (kind.Port (dir_at (number x.dir)) (number x.elem))

-- by the tag
abbrev pub type_records : ℕ → Value → List RuntimeTypeRecord
type_records p v =
    basic_of p v ∷ named_of p v ∷ pointer_of p v ∷ array_of p v ∷ slice_of p v ∷ map_of p v ∷ chan_of p v ∷ func_of p v ∷ struct_of p v ∷ interface_of p v
    ∷ tuple_of p v ∷ port_of p v ∷ bare_of kind.Island ∷ []

unfoldable pub runtime_type_of : ℕ → Value → RuntimeTypeRecord
runtime_type_of p v = let x = variant_of v in get_or (type_records (p + 1) x.part) (number x.tag) (bare_of kind.Island)
