-- The record of a metadata, as a function of the place and the value that was read there.
use Rattle.std.specs.Prelude.{ℕ, ◌+◌, List, [], ◌∷◌, eqb, get_or}
use Rattle.format.specs.Format.{Value, number, counted, Format, ◌▸◌}
use Rattle.vob24.specs.Settings as of
use Rattle.vob24.specs.Settings.{Settings}
use Rattle.vob24.specs.Leaves.{u16, u32, bool}
use Rattle.vob24.specs.Fields as of-value
use Rattle.vob24.specs.Fields.{variant_of, after}
use Rattle.vob24.specs.Grammar as vob
use Rattle.reader.specs.Recorded.{no_list, list_at}
use Rattle.metadata.specs.declared.Metadata.{Metadata}
use Rattle.metadata.specs.declared.Metadata.TheVariants as kind
use Rattle.lists.specs.Records.{bare_of}
use Rattle.lists.specs.declared.WithLists.{WithLists}

-- ---- the formats

abbrev pub metadata_format : Settings → Format
metadata_format set = vob.metadata set

abbrev pub metadata_list : Settings → Format
metadata_list set = vob.list set of.InstructionMetadata (metadata_format set)

abbrev slots : Settings → Format
slots set = vob.slot_types set

abbrev pub two_layouts : Settings → Format
two_layouts set = (slots set) ▸ (slots set)

abbrev pub elem_layout : Settings → Format
elem_layout set = u32 ▸ bool ▸ (slots set)

abbrev pub map_get : Settings → Format
map_get set = (slots set) ▸ (slots set) ▸ bool

abbrev pub slot_layout : Settings → Format
slot_layout set = u16 ▸ (slots set)

abbrev pub iface_assert : Settings → Format
iface_assert set = vob.assert_kind ▸ u32 ▸ (slots set)

abbrev pub call_iface : Settings → Format
call_iface set = u32 ▸ u32 ▸ (slots set) ▸ (slots set)

abbrev pub MetadataRecord : Type 0
MetadataRecord = WithLists Metadata

-- ---- the records: p is the place after the tag, v the value there

-- one list at p
abbrev pub one_of : Metadata → ℕ → Value → MetadataRecord
one_of k p v = record { kind = k; first = list_at p v; second = no_list }

-- the place after the slot types at p: each is one byte
abbrev pub past_slots : ℕ → Value → ℕ
past_slots p v = p + 4 + counted v

-- two lists of slot types, one after the other
abbrev pub two_of : Metadata → ℕ → Value → MetadataRecord
two_of k p v =
    let x = of-value.call_layout_of v in
    record { kind = k; first = list_at p x.arg_layout; second = list_at (past_slots p x.arg_layout) x.ret_layout }

abbrev pub elem_of : ℕ → Value → MetadataRecord
elem_of p v =
    let x = of-value.elem_layout_of v in
    one_of (kind.ElemLayout (number x.elem_bytes) (eqb (number x.needs_sign_extend) 1)) (p + 5) x.slot_layout

abbrev pub map_get_of : ℕ → Value → MetadataRecord
map_get_of p v =
    let x = of-value.map_get_of v in
    record {
      kind = kind.MapGet (eqb (number x.has_ok) 1);
      first = list_at p x.key_layout;
      second = list_at (past_slots p x.key_layout) x.val_layout;
    }

abbrev pub loop_end_of : ℕ → Value → MetadataRecord
loop_end_of p v = bare_of (kind.LoopEnd (number v))

abbrev pub slot_of : ℕ → Value → MetadataRecord
slot_of p v = let x = of-value.slot_layout_of v in one_of (kind.SlotLayout (number x.array_len)) (p + 2) x.elem_layout

abbrev pub assert_of : ℕ → Value → MetadataRecord
assert_of p v =
    let x = of-value.iface_assert_layout_of v in
    one_of (kind.IfaceAssertLayout (number x.assert_kind) (number x.target_id)) (p + 5) x.result_layout

abbrev pub call_iface_of : ℕ → Value → MetadataRecord
call_iface_of p v =
    let x = of-value.call_iface_layout_of v in
    two_of (kind.CallIfaceLayout (number x.iface_meta_id) (number x.method_idx)) (p + 8) (after 2 v)

-- by the tag; three tags are not in use
abbrev pub metadata_records : ℕ → Value → List MetadataRecord
metadata_records p v =
    bare_of kind.None ∷ elem_of p v ∷ map_get_of p v ∷ two_of kind.MapSet p v ∷ one_of kind.MapDelete p v ∷ loop_end_of p v ∷ bare_of kind.None ∷ bare_of kind.None ∷ bare_of kind.None
    ∷ one_of kind.PtrLayout p v ∷ slot_of p v ∷ two_of kind.CallLayout p v ∷ two_of kind.CallExternLayout p v ∷ one_of kind.QueueLayout p v ∷ two_of kind.MapIterNext p v
    ∷ assert_of p v ∷ two_of kind.MapNew p v ∷ call_iface_of p v ∷ one_of kind.SelectExecLayout p v ∷ []

unfoldable pub metadata_of : ℕ → Value → MetadataRecord
metadata_of p v = let x = variant_of v in get_or (metadata_records (p + 1) x.part) (number x.tag) (bare_of kind.None)
