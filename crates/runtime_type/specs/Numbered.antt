-- The value kind and the direction of a number, of one that names none the last; and the number of each, as the file has it.
use Rattle.std.specs.Prelude.{ℕ, List, [], ◌∷◌, get_or}
use Rattle.runtime_type.specs.declared.kinds.ValueKind.{ValueKind}
use Rattle.runtime_type.specs.declared.kinds.ValueKind.TheVariants.{Void, Bool, Int, Int8, Int16, Int32, Int64, Uint, Uint8, Uint16, Uint32, Uint64, Float32, Float64, Array, Struct, Interface, String, Slice, Map, Channel, Closure, Pointer, Port, Island}
use Rattle.runtime_type.specs.declared.kinds.ChanDir.{ChanDir}
use Rattle.runtime_type.specs.declared.kinds.ChanDir.TheVariants.{Both, Send, Recv}

abbrev pub value_kinds : List ValueKind
value_kinds =
    Void ∷ Bool ∷ Int ∷ Int8 ∷ Int16 ∷ Int32 ∷ Int64 ∷ Uint ∷ Uint8 ∷ Uint16 ∷ Uint32 ∷ Uint64 ∷ Float32 ∷ Float64 ∷ Array ∷ Struct ∷ Interface ∷ String ∷ Slice ∷ Map ∷ Channel ∷ Closure ∷ Pointer ∷ Port ∷ []

abbrev pub kind_at : ℕ → ValueKind
kind_at n = get_or value_kinds n Island

abbrev pub directions : List ChanDir
directions = Both ∷ Send ∷ []

abbrev pub dir_at : ℕ → ChanDir
dir_at n = get_or directions n Recv

abbrev pub value_kind_number : ValueKind → ℕ
value_kind_number Void = 0
value_kind_number Bool = 1
value_kind_number Int = 2
value_kind_number Int8 = 3
value_kind_number Int16 = 4
value_kind_number Int32 = 5
value_kind_number Int64 = 6
value_kind_number Uint = 7
value_kind_number Uint8 = 8
value_kind_number Uint16 = 9
value_kind_number Uint32 = 10
value_kind_number Uint64 = 11
value_kind_number Float32 = 12
value_kind_number Float64 = 13
value_kind_number Array = 14
value_kind_number Struct = 15
value_kind_number Interface = 16
value_kind_number String = 17
value_kind_number Slice = 18
value_kind_number Map = 19
value_kind_number Channel = 20
value_kind_number Closure = 21
value_kind_number Pointer = 22
value_kind_number Port = 23
value_kind_number Island = 24

abbrev pub direction_number : ChanDir → ℕ
direction_number Both = 0
direction_number Send = 1
direction_number Recv = 2
