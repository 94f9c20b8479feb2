-- The VOB 24 rule pack: every record and variant that `serialize.rs` reads, in file order, and its seventeen sections.
-- The fields by name are `Fields.antt`.
use Rattle.std.specs.Prelude.{ℕ, ◌+◌, ◌-◌, ◌*◌, min, List, [], ◌∷◌, map, true, false, length, leb}
use Rattle.format.specs.Trace.{wrong, pick}
use Rattle.format.specs.Format.{Value, number, content, Rule, byte, Ask, pay, fixed, string, payload, count, ask, Format, empty, leaf, seq, ◌▸◌, chain, times, entries, counted}
use Rattle.vob24.specs.Refusals
use Rattle.vob24.specs.Settings as of
use Rattle.vob24.specs.Settings.{Settings, size_of}
use Rattle.vob24.specs.Utf8.{well_formed}
use Rattle.vob24.specs.Leaves.{free, at_most, at_most_bare, limit, magic_mark, version_mark, u8, u16, u32, u64, optional_id, bool, slot_type, value_kind, direction, value_meta, value_rttid, source_u32, str, member_name, list_of, choose, optional}
use Rattle.vob24.specs.Fields.{struct_field_of, interface_method_of, new_method_of, runtime_field_of, transfer_of, inline_function_of}
use Rattle.vob24.specs.Questions.{refuse_if, among, repeat, named, field_keys, new_names, Identity, new_identities, transfer_words, same_slots, same_code, no_host_calls}

-- The questions on what was read.
abbrev pub asking : List Ask → Format
asking l = leaf (ask l)

-- Records, questions and accessors that no setting touches.

-- Structs. name, offset, slot_count, type_info, embedded, tag
unfoldable pub struct_field : Format
struct_field = member_name ▸ u16 ▸ u16 ▸ value_rttid ▸ bool ▸ optional str

abbrev pub field_name : Value → Value
field_name v = (struct_field_of v).name

-- Interfaces. name, signature_rttid
unfoldable pub interface_method : Format
interface_method = member_name ▸ u32

-- of a named type's method and a runtime interface's too
abbrev pub method_name : Value → Value
method_name v = (interface_method_of v).name

-- Named types. name, func_id, is_pointer_receiver, receiver_is_iface_boxed, signature_rttid
unfoldable pub method : Format
method = member_name ▸ u32 ▸ bool ▸ bool ▸ u32

-- A method whose name is new among those before it: judged after the whole record.
unfoldable pub new_method : List (List ℕ) → Format
new_method seen = seq method (λ v. asking (refuse_if (among (content (method_name v)) seen) (repeat Refusals.duplicate_named_method 0 (method_name v))))

-- the names so far, after one method more
abbrev pub also_seen : List (List ℕ) → Value → List (List ℕ)
also_seen seen v = content (method_name (new_method_of v).method) ∷ seen

-- Runtime types. name, typ, tag, embedded, pkg
unfoldable pub runtime_field : Format
runtime_field = member_name ▸ value_rttid ▸ str ▸ bool ▸ str

-- "by package and name"
abbrev pub identity : Value → Identity
identity v = ((runtime_field_of v).pkg, (runtime_field_of v).name)

-- name, sig
unfoldable pub runtime_method : Format
runtime_method = member_name ▸ value_rttid

-- Well-known ids. error_named_type_id, error_iface_meta_id, error_ptr_rttid, error_struct_meta_id, error_field_offsets
unfoldable pub error_types : Format
error_types = optional_id ▸ optional_id ▸ optional_id ▸ optional_id ▸ optional (u16 ▸ u16)

-- attr_object_iface_id, set_attr_object_iface_id, index_object_iface_id, set_index_object_iface_id,
-- call_object_iface_id
unfoldable pub object_interfaces : Format
object_interfaces = optional_id ▸ optional_id ▸ optional_id ▸ optional_id ▸ optional_id

-- Constants: Nil, Bool, Int, Float, String.
abbrev pub constant_variants : List Format
constant_variants = empty ∷ bool ∷ u64 ∷ u64 ∷ str ∷ []

unfoldable pub constant : Format
constant = choose (at_most_bare 4 Refusals.invalid_constant) constant_variants

-- Functions. Send (queue, value, elem_slots); Recv (destination, queue, elem_slots, has_ok)
abbrev pub select_variants : List Format
select_variants = (u16 ▸ u16 ▸ u16) ∷ (u16 ▸ u16 ▸ u16 ▸ bool) ∷ []

unfoldable pub select_case : Format
select_case = choose (at_most_bare 1 Refusals.invalid_instruction_metadata) select_variants

-- "Metadata tag in 0..5 or 9..18"
abbrev pub metadata_tag : Rule
metadata_tag = record { test = λ n. pick (leb n 5) true (pick (leb 9 n) (leb n 18) false); why = λ n. wrong Refusals.invalid_instruction_metadata 0 }

-- "assert kind 0 or 1"
abbrev pub assert_kind : Format
assert_kind = leaf (fixed byte (at_most_bare 1 Refusals.invalid_instruction_metadata))

-- op, flags, a, b, c
unfoldable pub instruction : Format
instruction = u8 ▸ u8 ▸ u16 ▸ u16 ▸ u16

-- meta_raw, rttid_raw, slots
unfoldable pub transfer : Format
transfer = u32 ▸ u32 ▸ u16

-- meta_raw and rttid_raw
abbrev pub transferred : Value → ℕ × ℕ
transferred v = (number (transfer_of v).meta_raw, number (transfer_of v).rttid_raw)

-- name, param_count, param_slots
unfoldable pub function_head : Format
function_head = str ▸ u16 ▸ u16

-- is_closure, error_ret_slot, has_defer
unfoldable pub function_traits : Format
function_traits = bool ▸ u32 ▸ bool

-- Debug information. pc, file_id, line, col, len
unfoldable pub location : Format
location = source_u32 ▸ source_u32 ▸ source_u32 ▸ source_u32 ▸ source_u32

-- file_id, line, col, len
unfoldable pub span : Format
span = u32 ▸ u32 ▸ u32 ▸ u32

-- parent, function_id, span
unfoldable pub frame : Format
frame = u32 ▸ u32 ▸ optional span

-- pc, frame
unfoldable pub inline_entry : Format
inline_entry = u32 ▸ u32

-- what is left after one function more
abbrev pub still_left : ℕ → Value → ℕ
still_left left v = left - counted (inline_function_of v).entries

module _ (set : Settings) where
  -- "A list costs count × its entry's size": a list of entries of the type numbered i.
  abbrev pub list : ℕ → Format → Format
  list i f = list_of free (size_of set i) f

  abbrev pub slot_types : Format
  slot_types = list of.SlotType slot_type

  -- "per struct, for fields not "_", (String, usize) each and then, name by name, its length"
  abbrev pub field_index : List Value → List Ask
  field_index names = pay Refusals.struct_field_index (length (named names) * size_of set of.StringUsize) ∷ field_keys [] (named names)

  -- slot_types, fields
  unfoldable pub struct : Format
  struct = slot_types ▸ seq (list of.FieldMeta struct_field) (λ fields. asking (field_index (map field_name (entries fields))))

  -- "per interface list and runtime interface, names × 2 × &str"
  abbrev pub method_set : List Value → List Ask
  method_set names = pay Refusals.interface_method_set (length names * (2 * size_of set of.Str)) ∷ new_names [] names

  -- name, method_names, methods; both lists, then the first set, then the second
  unfoldable pub interface : Format
  interface =
      str
      ▸ seq (list of.String member_name) (λ names. seq (list of.InterfaceMethodMeta interface_method) (λ methods.
      asking (method_set (entries names)) ▸ asking (method_set (map method_name (entries methods)))))

  -- "methods × ((String, MethodInfo) + 3 × usize)"
  abbrev pub method_size : ℕ
  method_size = size_of set of.StringMethodInfo + 3 * size_of set of.Usize

  -- "2 if the method count exceeds bytes left divided by 14, before the charge."
  unfoldable pub methods : Format
  methods = seq (leaf (count free 14 Refusals.named_method_map method_size)) (λ n. chain new_method also_seen [] (number n))

  -- name, underlying_meta, underlying_rttid, methods
  unfoldable pub named_type : Format
  named_type = str ▸ value_meta ▸ value_rttid ▸ methods

  -- iface_meta_id, methods
  unfoldable pub itab : Format
  itab = u32 ▸ list of.U32 u32

  -- "per runtime struct, all fields × 2 × (&str, &str)"
  abbrev pub field_set : List Identity → List Ask
  field_set xs = pay Refusals.runtime_struct_field_set (length xs * (2 * size_of set of.StrStr)) ∷ new_identities [] xs

  -- meta_id, fields
  unfoldable pub runtime_struct : Format
  runtime_struct = u32 ▸ seq (list of.StructField runtime_field) (λ fields. asking (field_set (map identity (entries fields))))

  -- meta_id, methods
  unfoldable pub runtime_interface : Format
  runtime_interface = u32 ▸ seq (list of.InterfaceMethod runtime_method) (λ methods. asking (method_set (map method_name (entries methods))))

  abbrev pub rttids : Format
  rttids = list of.ValueRttid value_rttid

  -- Basic, Named, Pointer, Array, Slice, Map, Chan, Func, Struct, Interface, Tuple, Port, Island
  abbrev pub runtime_variants : List Format
  runtime_variants =
      value_kind ∷ (u32 ▸ optional_id) ∷ value_rttid ∷ (u64 ▸ value_rttid) ∷ value_rttid ∷ (value_rttid ▸ value_rttid) ∷ (direction ▸ value_rttid)
      ∷ (bool ▸ rttids ▸ rttids) ∷ runtime_struct ∷ runtime_interface ∷ rttids ∷ (direction ▸ value_rttid) ∷ empty ∷ []

  unfoldable pub runtime_type : Format
  runtime_type = choose (at_most 12 Refusals.invalid_runtime_type) runtime_variants

  -- name, slots, value_kind, meta_id, slot_types
  unfoldable pub global : Format
  global = str ▸ u16 ▸ value_kind ▸ u32 ▸ slot_types

  -- None, ElemLayout, MapGet, MapSet, MapDelete, LoopEnd, three tags that are not in use, PtrLayout, SlotLayout,
  -- CallLayout, CallExternLayout, QueueLayout, MapIterNext, IfaceAssertLayout, MapNew, CallIfaceLayout,
  -- SelectExecLayout
  abbrev pub metadata_variants : List Format
  metadata_variants =
      empty ∷ (u32 ▸ bool ▸ slot_types) ∷ (slot_types ▸ slot_types ▸ bool) ∷ (slot_types ▸ slot_types) ∷ slot_types ∷ u32 ∷ empty ∷ empty ∷ empty
      ∷ slot_types ∷ (u16 ▸ slot_types) ∷ (slot_types ▸ slot_types) ∷ (slot_types ▸ slot_types) ∷ slot_types ∷ (slot_types ▸ slot_types)
      ∷ (assert_kind ▸ u32 ▸ slot_types) ∷ (slot_types ▸ slot_types) ∷ (u32 ▸ u32 ▸ slot_types ▸ slot_types) ∷ list of.SelectCaseLayout select_case ∷ []

  unfoldable pub metadata : Format
  metadata = choose metadata_tag metadata_variants

  -- code, instruction_metadata; their counts are compared after both
  unfoldable pub code : Format
  code = seq (list of.Instruction instruction) (λ instructions. seq (list of.InstructionMetadata metadata) (λ metadata. asking (same_code (counted metadata) (counted instructions))))

  -- "transfer words are judged after their whole list"; c is the context of the meta word
  unfoldable pub transfers : ℕ → Format
  transfers c = seq (list of.TransferType transfer) (λ v. asking (transfer_words c 0 (map transferred (entries v))))

  -- ret_slots, ret_slot_types, recv_slots, heap_ret_gcref_count, heap_ret_gcref_start, heap_ret_slots
  unfoldable pub function_returns : Format
  function_returns = u16 ▸ slot_types ▸ u16 ▸ u16 ▸ u16 ▸ list of.U16 u16

  -- code, instruction_metadata, capture_types, capture_slot_types, param_types; the slot count "last of all"
  unfoldable pub function_body : ℕ → ℕ → Format
  function_body types locals = code ▸ transfers Refusals.capture_meta ▸ slot_types ▸ transfers Refusals.parameter_meta ▸ asking (same_slots types locals)

  -- local_slots stands after the head, slot_types before the body
  unfoldable pub function : Format
  function =
      function_head
      ▸ seq u16 (λ locals. function_returns ▸ function_traits
      ▸ seq slot_types (λ types. function_body (counted types) (number locals)))

  -- Artifacts. name, version, payload
  unfoldable pub artifact : Format
  artifact =
      leaf (string (limit Refusals.module_artifact_limit_exceeded Refusals.artifact_name set.artifact_name_bytes) Refusals.artifact_name well_formed)
      ▸ u32
      ▸ leaf (payload (limit Refusals.module_artifact_limit_exceeded Refusals.artifact_payload set.artifact_payload_bytes) Refusals.artifact_payload)

  -- function_id, entries: at most as many as are left of the shared limit
  unfoldable pub inline_function : ℕ → Format
  inline_function left = u32 ▸ list_of (limit Refusals.debug_metadata_limit_exceeded Refusals.inline_entries left) (size_of set of.InlineSourceEntry) inline_entry

  unfoldable pub inline_frames : Format
  inline_frames = list_of (limit Refusals.debug_metadata_limit_exceeded Refusals.inline_frames set.inline_records) (size_of set of.InlineSourceFrame) frame

  -- "functions at most the smaller of that and the function count; entries share 131,072"
  unfoldable pub inline_functions : ℕ → Format
  inline_functions functions =
      seq (leaf (count (limit Refusals.debug_metadata_limit_exceeded Refusals.inline_functions (min functions set.inline_records)) 1 Refusals.vector (size_of set of.InlineFunctionSources)))
      (λ n. chain inline_function still_left set.inline_records (number n))

-- "Sections: Name, structs, interfaces, .."
pub data Section : Type 0 where
  name structs interfaces named_types itabs runtime_types well_known constants globals functions externs entry island_init artifacts files function_locations inline_sources : Section

-- The format of a section; that of the inline sources goes by the number of functions.
unfoldable pub section : Settings → ℕ → Section → Format
section set n name = str
section set n structs = list set of.StructMeta (struct set)
section set n interfaces = list set of.InterfaceMeta (interface set)
section set n named_types = list set of.NamedTypeMeta (named_type set)
section set n itabs = list set of.Itab (itab set)
section set n runtime_types = list set of.RuntimeType (runtime_type set)
section set n well_known = error_types ▸ object_interfaces
section set n constants = list set of.Constant constant
section set n globals = list set of.GlobalDef (global set)
section set n functions = list set of.FunctionDef (function set)
-- "The bytes-left question now comes first, the budget second, HostCalls third."
section set n externs = seq (leaf (count free 1 Refusals.vector (size_of set of.ExternDef))) (λ n. asking (no_host_calls (number n)))
section set n entry = u32
section set n island_init = u32
-- "Artifact count is never held against the bytes left."
section set n artifacts =
    seq (leaf (count (limit Refusals.module_artifact_limit_exceeded Refusals.artifact_count set.artifacts) 0 Refusals.module_artifacts (size_of set of.ModuleArtifact)))
    (λ n. times (artifact set) (number n))
section set n files = list set of.String str
section set n function_locations = list set of.FuncDebugInfo (list set of.DebugLoc location)
section set n inline_sources = inline_frames set ▸ inline_functions set n

-- The sections after the functions, by the number of functions.
unfoldable pub after_functions : Settings → ℕ → Format
after_functions set n =
    section set n externs ▸ section set n entry ▸ section set n island_init ▸ section set n artifacts ▸ section set n files ▸ section set n function_locations
    ▸ section set n inline_sources

unfoldable pub sections : Settings → Format
sections set =
    section set 0 name ▸ section set 0 structs ▸ section set 0 interfaces ▸ section set 0 named_types ▸ section set 0 itabs ▸ section set 0 runtime_types
    ▸ section set 0 well_known ▸ section set 0 constants ▸ section set 0 globals
    ▸ seq (section set 0 functions) (λ v. after_functions set (counted v))

abbrev pub magic : Format
magic = leaf magic_mark

abbrev pub version : Format
version = leaf version_mark

unfoldable pub pack : Settings → Format
pack set = magic ▸ version ▸ sections set
