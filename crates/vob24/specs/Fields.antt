-- The fields of each record of the grammar, in file order, under the Rust's names. Questions, costs and the lookup take
-- a value apart by these alone; `Accessors.antt` proves of each record that these are its fields.
use Rattle.std.specs.Prelude.{ℕ, suc, zero}
use Rattle.format.specs.Format.{Value, first, second}

-- What stands after the first n parts of a sequence, and the part that it opens with.
abbrev pub after : ℕ → Value → Value
after zero v = v
after (suc n) v = after n (second v)

abbrev nth : ℕ → Value → Value
nth n v = first (after n v)

-- A variant: its tag, and the part of that tag.
abbrev pub variant_of : Value → record { tag : Value; part : Value }
variant_of v = record { tag = nth 0 v; part = after 1 v }

-- Structs: `FieldMeta`, `StructMeta`.
abbrev pub struct_field_of : Value
    → record { name : Value; offset : Value; slot_count : Value; type_info : Value; embedded : Value; tag : Value }
struct_field_of v = record { name = nth 0 v; offset = nth 1 v; slot_count = nth 2 v; type_info = nth 3 v; embedded = nth 4 v; tag = after 5 v }

abbrev pub struct_of : Value → record { slot_types : Value; fields : Value }
struct_of v = record { slot_types = nth 0 v; fields = nth 1 v }

-- Interfaces: `InterfaceMethodMeta`, `InterfaceMeta`.
abbrev pub interface_method_of : Value → record { name : Value; signature_rttid : Value }
interface_method_of v = record { name = nth 0 v; signature_rttid = after 1 v }

abbrev pub interface_of : Value → record { name : Value; method_names : Value; methods : Value }
interface_of v = record { name = nth 0 v; method_names = nth 1 v; methods = nth 2 v }

-- Named types: a method's name with its `MethodInfo`; the same in the list, where a question follows each method;
-- `NamedTypeMeta`.
abbrev pub method_of : Value
    → record { name : Value; func_id : Value; is_pointer_receiver : Value; receiver_is_iface_boxed : Value; signature_rttid : Value }
method_of v = record { name = nth 0 v; func_id = nth 1 v; is_pointer_receiver = nth 2 v; receiver_is_iface_boxed = nth 3 v; signature_rttid = after 4 v }

abbrev pub new_method_of : Value → record { method : Value }
new_method_of v = record { method = nth 0 v }

abbrev pub named_type_of : Value
    → record { name : Value; underlying_meta : Value; underlying_rttid : Value; methods : Value }
named_type_of v = record { name = nth 0 v; underlying_meta = nth 1 v; underlying_rttid = nth 2 v; methods = after 3 v }

-- `Itab`
abbrev pub itab_of : Value → record { iface_meta_id : Value; methods : Value }
itab_of v = record { iface_meta_id = nth 0 v; methods = after 1 v }

-- Runtime types: `StructField`, `InterfaceMethod`, and the variants of `RuntimeType` that hold more than one field.
abbrev pub runtime_field_of : Value → record { name : Value; typ : Value; tag : Value; embedded : Value; pkg : Value }
runtime_field_of v = record { name = nth 0 v; typ = nth 1 v; tag = nth 2 v; embedded = nth 3 v; pkg = after 4 v }

abbrev pub runtime_method_of : Value → record { name : Value; sig : Value }
runtime_method_of v = record { name = nth 0 v; sig = after 1 v }

abbrev pub named_of : Value → record { id : Value; struct_meta_id : Value }
named_of v = record { id = nth 0 v; struct_meta_id = after 1 v }

abbrev pub array_of : Value → record { len : Value; elem : Value }
array_of v = record { len = nth 0 v; elem = after 1 v }

abbrev pub map_of : Value → record { key : Value; val : Value }
map_of v = record { key = nth 0 v; val = after 1 v }

-- Chan and Port
abbrev pub chan_of : Value → record { dir : Value; elem : Value }
chan_of v = record { dir = nth 0 v; elem = after 1 v }

abbrev pub func_of : Value → record { variadic : Value; params : Value; results : Value }
func_of v = record { variadic = nth 0 v; params = nth 1 v; results = after 2 v }

abbrev pub runtime_struct_of : Value → record { meta_id : Value; fields : Value }
runtime_struct_of v = record { meta_id = nth 0 v; fields = nth 1 v }

abbrev pub runtime_interface_of : Value → record { meta_id : Value; methods : Value }
runtime_interface_of v = record { meta_id = nth 0 v; methods = nth 1 v }

-- `WellKnownTypes`: the error's ids with the offsets of [msg, cause], then the object interfaces.
abbrev pub well_known_of : Value → record {
  error_named_type_id : Value;
  error_iface_meta_id : Value;
  error_ptr_rttid : Value;
  error_struct_meta_id : Value;
  error_field_offsets : Value;
  attr_object_iface_id : Value;
  set_attr_object_iface_id : Value;
  index_object_iface_id : Value;
  set_index_object_iface_id : Value;
  call_object_iface_id : Value;
}
well_known_of v =
    let errors = nth 0 v in
    let objects = after 1 v in
    record {
      error_named_type_id = nth 0 errors;
      error_iface_meta_id = nth 1 errors;
      error_ptr_rttid = nth 2 errors;
      error_struct_meta_id = nth 3 errors;
      error_field_offsets = after 4 errors;
      attr_object_iface_id = nth 0 objects;
      set_attr_object_iface_id = nth 1 objects;
      index_object_iface_id = nth 2 objects;
      set_index_object_iface_id = nth 3 objects;
      call_object_iface_id = after 4 objects;
    }

-- `GlobalDef`
abbrev pub global_of : Value
    → record { name : Value; slots : Value; value_kind : Value; meta_id : Value; slot_types : Value }
global_of v = record { name = nth 0 v; slots = nth 1 v; value_kind = nth 2 v; meta_id = nth 3 v; slot_types = after 4 v }

-- Functions: `Instruction`, `SelectCaseLayout`, the variants of `InstructionMetadata` that hold more than one field,
-- `TransferType`.
abbrev pub instruction_of : Value → record { op : Value; flags : Value; a : Value; b : Value; c : Value }
instruction_of v = record { op = nth 0 v; flags = nth 1 v; a = nth 2 v; b = nth 3 v; c = after 4 v }

abbrev pub send_of : Value → record { queue : Value; value : Value; elem_slots : Value }
send_of v = record { queue = nth 0 v; value = nth 1 v; elem_slots = after 2 v }

abbrev pub recv_of : Value → record { destination : Value; queue : Value; elem_slots : Value; has_ok : Value }
recv_of v = record { destination = nth 0 v; queue = nth 1 v; elem_slots = nth 2 v; has_ok = after 3 v }

abbrev pub elem_layout_of : Value → record { elem_bytes : Value; needs_sign_extend : Value; slot_layout : Value }
elem_layout_of v = record { elem_bytes = nth 0 v; needs_sign_extend = nth 1 v; slot_layout = after 2 v }

abbrev pub map_get_of : Value → record { key_layout : Value; val_layout : Value; has_ok : Value }
map_get_of v = record { key_layout = nth 0 v; val_layout = nth 1 v; has_ok = after 2 v }

-- MapSet, MapIterNext, MapNew
abbrev pub map_layouts_of : Value → record { key_layout : Value; val_layout : Value }
map_layouts_of v = record { key_layout = nth 0 v; val_layout = after 1 v }

abbrev pub slot_layout_of : Value → record { array_len : Value; elem_layout : Value }
slot_layout_of v = record { array_len = nth 0 v; elem_layout = after 1 v }

-- CallLayout, CallExternLayout
abbrev pub call_layout_of : Value → record { arg_layout : Value; ret_layout : Value }
call_layout_of v = record { arg_layout = nth 0 v; ret_layout = after 1 v }

abbrev pub iface_assert_layout_of : Value → record { assert_kind : Value; target_id : Value; result_layout : Value }
iface_assert_layout_of v = record { assert_kind = nth 0 v; target_id = nth 1 v; result_layout = after 2 v }

abbrev pub call_iface_layout_of : Value
    → record { iface_meta_id : Value; method_idx : Value; arg_layout : Value; ret_layout : Value }
call_iface_layout_of v = record { iface_meta_id = nth 0 v; method_idx = nth 1 v; arg_layout = nth 2 v; ret_layout = after 3 v }

abbrev pub transfer_of : Value → record { meta_raw : Value; rttid_raw : Value; slots : Value }
transfer_of v = record { meta_raw = nth 0 v; rttid_raw = nth 1 v; slots = after 2 v }

-- `FunctionDef`. A question stands behind the code and behind each list of transfer types, one more behind the whole.
abbrev pub function_of : Value → record {
  name : Value;
  param_count : Value;
  param_slots : Value;
  local_slots : Value;
  ret_slots : Value;
  ret_slot_types : Value;
  recv_slots : Value;
  heap_ret_gcref_count : Value;
  heap_ret_gcref_start : Value;
  heap_ret_slots : Value;
  is_closure : Value;
  error_ret_slot : Value;
  has_defer : Value;
  slot_types : Value;
  code : Value;
  instruction_metadata : Value;
  capture_types : Value;
  capture_slot_types : Value;
  param_types : Value;
}
function_of v =
    let head = nth 0 v in
    let returns = nth 2 v in
    let traits = nth 3 v in
    let body = after 5 v in
    record {
      name = nth 0 head;
      param_count = nth 1 head;
      param_slots = after 2 head;
      local_slots = nth 1 v;
      ret_slots = nth 0 returns;
      ret_slot_types = nth 1 returns;
      recv_slots = nth 2 returns;
      heap_ret_gcref_count = nth 3 returns;
      heap_ret_gcref_start = nth 4 returns;
      heap_ret_slots = after 5 returns;
      is_closure = nth 0 traits;
      error_ret_slot = nth 1 traits;
      has_defer = after 2 traits;
      slot_types = nth 4 v;
      code = nth 0 (nth 0 body);
      instruction_metadata = nth 1 (nth 0 body);
      capture_types = nth 0 (nth 1 body);
      capture_slot_types = nth 2 body;
      param_types = nth 0 (nth 3 body);
    }

-- `ModuleArtifact`
abbrev pub artifact_of : Value → record { name : Value; version : Value; payload : Value }
artifact_of v = record { name = nth 0 v; version = nth 1 v; payload = after 2 v }

-- Debug information: `DebugLoc`, `SourceSpan`, `InlineSourceFrame`, `InlineSourceEntry`, `InlineFunctionSources`,
-- `InlineSources`.
abbrev pub location_of : Value → record { pc : Value; file_id : Value; line : Value; col : Value; len : Value }
location_of v = record { pc = nth 0 v; file_id = nth 1 v; line = nth 2 v; col = nth 3 v; len = after 4 v }

abbrev pub span_of : Value → record { file_id : Value; line : Value; col : Value; len : Value }
span_of v = record { file_id = nth 0 v; line = nth 1 v; col = nth 2 v; len = after 3 v }

abbrev pub frame_of : Value → record { parent : Value; function_id : Value; span : Value }
frame_of v = record { parent = nth 0 v; function_id = nth 1 v; span = after 2 v }

abbrev pub inline_entry_of : Value → record { pc : Value; frame : Value }
inline_entry_of v = record { pc = nth 0 v; frame = after 1 v }

abbrev pub inline_function_of : Value → record { function_id : Value; entries : Value }
inline_function_of v = record { function_id = nth 0 v; entries = after 1 v }

abbrev pub inline_sources_of : Value → record { frames : Value; functions : Value }
inline_sources_of v = record { frames = nth 0 v; functions = after 1 v }
