-- The accessors of `Fields.antt` are the fields that the grammar has: of each record its fields and its questions, in
-- file order. An accessor that is shifted, exchanged with another or given to the wrong question makes a line of this
-- file false.
use Rattle.std.specs.Prelude.{ℕ, suc, zero, ◌-◌, min, ◌≡◌, refl, List, [], ◌∷◌, ◌++◌, map, get_or}
use Rattle.std.proofs.Common.{ap, sym, ◌∙◌, append_assoc, append-nil}
use Rattle.format.specs.Format.{Value, number, content, first, second, Rule, byte, Ask, fixed, string, payload, count, ask, Format, empty, leaf, seq, ◌▸◌, chain, times, items, entries, counted}
use Rattle.format.specs.Record.{words_leaf, words}
use Rattle.vob24.specs.Refusals
use Rattle.vob24.specs.Settings as of
use Rattle.vob24.specs.Settings.{Settings, size_of}
use Rattle.vob24.specs.Utf8.{well_formed}
use Rattle.vob24.specs.Leaves.{free, limit, u8, u16, u32, u64, optional_id, bool, value_kind, direction, value_meta, value_rttid, source_u32, str, member_name, list_of, choose, optional}
use Rattle.vob24.specs.Fields.{variant_of, struct_field_of, struct_of, interface_method_of, interface_of, method_of, new_method_of, named_type_of, itab_of, runtime_field_of, runtime_method_of, named_of, array_of, map_of, chan_of, func_of, runtime_struct_of, runtime_interface_of, well_known_of, global_of, instruction_of, send_of, recv_of, elem_layout_of, map_get_of, map_layouts_of, slot_layout_of, call_layout_of, iface_assert_layout_of, call_iface_layout_of, transfer_of, function_of, artifact_of, location_of, span_of, frame_of, inline_entry_of, inline_function_of, inline_sources_of}
use Rattle.vob24.specs.Questions.{refuse_if, among, repeat, transfer_words, same_slots, same_code, no_host_calls}
use Rattle.vob24.specs.Grammar as g
use Rattle.vob24.specs.Grammar.{functions, externs, well_known, inline_sources, section, pack}
use Rattle.vob24.specs.Cost.{part_of, all_sections}

-- A part of a record: a field, by its format and its value, or questions on what was read.
pub data Part : Type 0 where
  field : Format → Value → Part
  asked : List Ask → Part

-- The last list is the parts of a value of this format, in file order, and after them those of the list before it.
pub data Reads : Format → Value → List Part → List Part → Type 0 where
  one : {f : Format} {v : Value} {rest : List Part} → Reads f v rest (field f v ∷ rest)
  question : {q : List Ask} {v : Value} {rest : List Part} → Reads (leaf (ask q)) v rest (asked q ∷ rest)
  next : {f : Format} {h : Value → Format} {v : Value} {rest mid all : List Part} → Reads f (first v) mid all
      → Reads (h (first v)) (second v) rest mid → Reads (seq f h) v rest all

-- Every value of the format is these parts.
pub record Fields (f : Format) (parts : Value → List Part) : Type 0 where
  pub are : (v : Value) → Reads f v [] (parts v)

-- "It holds each field in file order": the words of the fields, one after the other.
unfoldable pub field_words : List Part → List ℕ
field_words [] = []
field_words (field f v ∷ l) = words f v ++ field_words l
field_words (asked q ∷ l) = field_words l

reads-words : {f : Format} {v : Value} {rest all : List Part} → Reads f v rest all
    → field_words all ≡ words f v ++ field_words rest
unfolding field_words words words_leaf
reads-words one = refl
reads-words question = refl
reads-words (next {f} {h} {v} {rest} a b) = reads-words a ∙ ap (λ l. words f (first v) ++ l) (reads-words b) ∙ sym (append_assoc (words f (first v)) (words (h (first v)) (second v)) (field_words rest))

pub fields-words : {f : Format} {parts : Value → List Part} → Fields f parts → (v : Value)
    → words f v ≡ field_words (parts v)
unfolding field_words
fields-words {f} h v = sym (reads-words (h.are v) ∙ append-nil (words f v))

-- "list its count then its items"
items-words : (f : Format) (n : ℕ) (v : Value) → words (times f n) v ≡ field_words (map (field f) (items n v))
unfolding field_words words chain items
items-words f zero v = refl
items-words f (suc n) v = ap (λ l. words f (first v) ++ l) (items-words f n (second v))

pub list-words : (r : Rule) (z : ℕ) (f : Format) (v : Value)
    → words (list_of r z f) v ≡ counted v ∷ field_words (map (field f) (entries v))
unfolding words words_leaf
list-words r z f v = ap (λ l. counted v ∷ l) (items-words f (counted v) (second v))

-- a field, and what stands after it
then : {f : Format} {h : Value → Format} {v : Value} {rest mid : List Part} → Reads (h (first v)) (second v) rest mid
    → Reads (seq f h) v rest (field f (first v) ∷ mid)
then r = next one r

-- A variant: its tag, and the part that the tag picks.
pub variant_fields : (r : Rule) (fs : List Format) → Fields (choose r fs) (λ v.
    let x = variant_of v in
    field (leaf (fixed byte r)) x.tag ∷ field (get_or fs (number x.tag) empty) x.part ∷ [])
variant_fields r fs = record { are = λ v. then one }

pub struct_field-fields : Fields g.struct_field (λ v.
    let x = struct_field_of v in
    field member_name x.name ∷ field u16 x.offset ∷ field u16 x.slot_count ∷ field value_rttid x.type_info ∷ field bool x.embedded
    ∷ field (optional str) x.tag ∷ [])
unfolding g.struct_field
struct_field-fields = record { are = λ v. then (then (then (then (then one)))) }

pub interface_method-fields : Fields g.interface_method (λ v.
    let x = interface_method_of v in
    field member_name x.name ∷ field u32 x.signature_rttid ∷ [])
unfolding g.interface_method
interface_method-fields = record { are = λ v. then one }

pub method-fields : Fields g.method (λ v.
    let x = method_of v in
    field member_name x.name ∷ field u32 x.func_id ∷ field bool x.is_pointer_receiver ∷ field bool x.receiver_is_iface_boxed
    ∷ field u32 x.signature_rttid ∷ [])
unfolding g.method
method-fields = record { are = λ v. then (then (then (then one))) }

pub new_method-fields : (seen : List (List ℕ)) → Fields (g.new_method seen) (λ v.
    field g.method (new_method_of v).method
    ∷ asked (refuse_if (among (content (method_of (new_method_of v).method).name) seen) (repeat Refusals.duplicate_named_method 0 (method_of (new_method_of v).method).name)) ∷ [])
unfolding g.new_method
new_method-fields seen = record { are = λ v. then question }

pub runtime_field-fields : Fields g.runtime_field (λ v.
    let x = runtime_field_of v in
    field member_name x.name ∷ field value_rttid x.typ ∷ field str x.tag ∷ field bool x.embedded ∷ field str x.pkg ∷ [])
unfolding g.runtime_field
runtime_field-fields = record { are = λ v. then (then (then (then one))) }

pub runtime_method-fields : Fields g.runtime_method (λ v.
    let x = runtime_method_of v in
    field member_name x.name ∷ field value_rttid x.sig ∷ [])
unfolding g.runtime_method
runtime_method-fields = record { are = λ v. then one }

pub instruction-fields : Fields g.instruction (λ v.
    let x = instruction_of v in
    field u8 x.op ∷ field u8 x.flags ∷ field u16 x.a ∷ field u16 x.b ∷ field u16 x.c ∷ [])
unfolding g.instruction
instruction-fields = record { are = λ v. then (then (then (then one))) }

pub send-fields : Fields (get_or g.select_variants 0 empty) (λ v.
    let x = send_of v in
    field u16 x.queue ∷ field u16 x.value ∷ field u16 x.elem_slots ∷ [])
send-fields = record { are = λ v. then (then one) }

pub recv-fields : Fields (get_or g.select_variants 1 empty) (λ v.
    let x = recv_of v in
    field u16 x.destination ∷ field u16 x.queue ∷ field u16 x.elem_slots ∷ field bool x.has_ok ∷ [])
recv-fields = record { are = λ v. then (then (then one)) }

pub transfer-fields : Fields g.transfer (λ v.
    let x = transfer_of v in
    field u32 x.meta_raw ∷ field u32 x.rttid_raw ∷ field u16 x.slots ∷ [])
unfolding g.transfer
transfer-fields = record { are = λ v. then (then one) }

pub location-fields : Fields g.location (λ v.
    let x = location_of v in
    field source_u32 x.pc ∷ field source_u32 x.file_id ∷ field source_u32 x.line ∷ field source_u32 x.col ∷ field source_u32 x.len ∷ [])
unfolding g.location
location-fields = record { are = λ v. then (then (then (then one))) }

pub span-fields : Fields g.span (λ v.
    let x = span_of v in
    field u32 x.file_id ∷ field u32 x.line ∷ field u32 x.col ∷ field u32 x.len ∷ [])
unfolding g.span
span-fields = record { are = λ v. then (then (then one)) }

pub frame-fields : Fields g.frame (λ v.
    let x = frame_of v in
    field u32 x.parent ∷ field u32 x.function_id ∷ field (optional g.span) x.span ∷ [])
unfolding g.frame
frame-fields = record { are = λ v. then (then one) }

pub inline_entry-fields : Fields g.inline_entry (λ v.
    let x = inline_entry_of v in
    field u32 x.pc ∷ field u32 x.frame ∷ [])
unfolding g.inline_entry
inline_entry-fields = record { are = λ v. then one }

module _ (set : Settings) where
  pub struct_fields : Fields (g.struct set) (λ v.
      let x = struct_of v in
      field (g.slot_types set) x.slot_types ∷ field (g.list set of.FieldMeta g.struct_field) x.fields
      ∷ asked (g.field_index set (map (λ f. (struct_field_of f).name) (entries x.fields))) ∷ [])
  unfolding g.struct
  struct_fields = record { are = λ v. then (then question) }

  pub interface-fields : Fields (g.interface set) (λ v.
      let x = interface_of v in
      field str x.name ∷ field (g.list set of.String member_name) x.method_names
      ∷ field (g.list set of.InterfaceMethodMeta g.interface_method) x.methods ∷ asked (g.method_set set (entries x.method_names))
      ∷ asked (g.method_set set (map (λ m. (interface_method_of m).name) (entries x.methods))) ∷ [])
  unfolding g.interface
  interface-fields = record { are = λ v. then (then (then (next question question))) }

  -- each method with the names of those before it
  pub methods-fields : Fields (g.methods set) (λ v.
      field (leaf (count free 14 Refusals.named_method_map (g.method_size set))) (first v)
      ∷ field (chain g.new_method (λ seen m. content (method_of (new_method_of m).method).name ∷ seen) [] (counted v)) (second v) ∷ [])
  unfolding g.methods
  methods-fields = record { are = λ v. then one }

  pub named_type-fields : Fields (g.named_type set) (λ v.
      let x = named_type_of v in
      field str x.name ∷ field value_meta x.underlying_meta ∷ field value_rttid x.underlying_rttid ∷ field (g.methods set) x.methods ∷ [])
  unfolding g.named_type
  named_type-fields = record { are = λ v. then (then (then one)) }

  pub itab-fields : Fields (g.itab set) (λ v.
      let x = itab_of v in
      field u32 x.iface_meta_id ∷ field (g.list set of.U32 u32) x.methods ∷ [])
  unfolding g.itab
  itab-fields = record { are = λ v. then one }

  pub named-fields : Fields (get_or (g.runtime_variants set) 1 empty) (λ v.
      let x = named_of v in
      field u32 x.id ∷ field optional_id x.struct_meta_id ∷ [])
  named-fields = record { are = λ v. then one }

  pub array-fields : Fields (get_or (g.runtime_variants set) 3 empty) (λ v.
      let x = array_of v in
      field u64 x.len ∷ field value_rttid x.elem ∷ [])
  array-fields = record { are = λ v. then one }

  pub map-fields : Fields (get_or (g.runtime_variants set) 5 empty) (λ v.
      let x = map_of v in
      field value_rttid x.key ∷ field value_rttid x.val ∷ [])
  map-fields = record { are = λ v. then one }

  -- Chan, Port
  pub chan-fields : Fields (direction ▸ value_rttid) (λ v.
      let x = chan_of v in
      field direction x.dir ∷ field value_rttid x.elem ∷ [])
  chan-fields = record { are = λ v. then one }

  pub func-fields : Fields (get_or (g.runtime_variants set) 7 empty) (λ v.
      let x = func_of v in
      field bool x.variadic ∷ field (g.rttids set) x.params ∷ field (g.rttids set) x.results ∷ [])
  func-fields = record { are = λ v. then (then one) }

  pub runtime_struct-fields : Fields (get_or (g.runtime_variants set) 8 empty) (λ v.
      let x = runtime_struct_of v in
      field u32 x.meta_id ∷ field (g.list set of.StructField g.runtime_field) x.fields
      ∷ asked (g.field_set set (map (λ f. ((runtime_field_of f).pkg, (runtime_field_of f).name)) (entries x.fields))) ∷ [])
  unfolding g.runtime_struct
  runtime_struct-fields = record { are = λ v. then (then question) }

  pub runtime_interface-fields : Fields (get_or (g.runtime_variants set) 9 empty) (λ v.
      let x = runtime_interface_of v in
      field u32 x.meta_id ∷ field (g.list set of.InterfaceMethod g.runtime_method) x.methods
      ∷ asked (g.method_set set (map (λ m. (runtime_method_of m).name) (entries x.methods))) ∷ [])
  unfolding g.runtime_interface
  runtime_interface-fields = record { are = λ v. then (then question) }

  pub well_known-fields : (n : ℕ) → Fields (section set n well_known) (λ v.
      let x = well_known_of v in
      field optional_id x.error_named_type_id ∷ field optional_id x.error_iface_meta_id ∷ field optional_id x.error_ptr_rttid
      ∷ field optional_id x.error_struct_meta_id ∷ field (optional (u16 ▸ u16)) x.error_field_offsets ∷ field optional_id x.attr_object_iface_id
      ∷ field optional_id x.set_attr_object_iface_id ∷ field optional_id x.index_object_iface_id ∷ field optional_id x.set_index_object_iface_id
      ∷ field optional_id x.call_object_iface_id ∷ [])
  unfolding section g.error_types g.object_interfaces
  well_known-fields n = record { are = λ v. next (then (then (then (then one)))) (then (then (then (then one)))) }

  pub global-fields : Fields (g.global set) (λ v.
      let x = global_of v in
      field str x.name ∷ field u16 x.slots ∷ field value_kind x.value_kind ∷ field u32 x.meta_id
      ∷ field (g.slot_types set) x.slot_types ∷ [])
  unfolding g.global
  global-fields = record { are = λ v. then (then (then (then one))) }

  pub elem_layout-fields : Fields (get_or (g.metadata_variants set) 1 empty) (λ v.
      let x = elem_layout_of v in
      field u32 x.elem_bytes ∷ field bool x.needs_sign_extend ∷ field (g.slot_types set) x.slot_layout ∷ [])
  elem_layout-fields = record { are = λ v. then (then one) }

  pub map_get-fields : Fields (get_or (g.metadata_variants set) 2 empty) (λ v.
      let x = map_get_of v in
      field (g.slot_types set) x.key_layout ∷ field (g.slot_types set) x.val_layout ∷ field bool x.has_ok ∷ [])
  map_get-fields = record { are = λ v. then (then one) }

  -- MapSet, MapIterNext, MapNew
  pub map_layouts-fields : Fields (g.slot_types set ▸ g.slot_types set) (λ v.
      let x = map_layouts_of v in
      field (g.slot_types set) x.key_layout ∷ field (g.slot_types set) x.val_layout ∷ [])
  map_layouts-fields = record { are = λ v. then one }

  pub slot_layout-fields : Fields (get_or (g.metadata_variants set) 10 empty) (λ v.
      let x = slot_layout_of v in
      field u16 x.array_len ∷ field (g.slot_types set) x.elem_layout ∷ [])
  slot_layout-fields = record { are = λ v. then one }

  -- CallLayout, CallExternLayout
  pub call_layout-fields : Fields (g.slot_types set ▸ g.slot_types set) (λ v.
      let x = call_layout_of v in
      field (g.slot_types set) x.arg_layout ∷ field (g.slot_types set) x.ret_layout ∷ [])
  call_layout-fields = record { are = λ v. then one }

  pub iface_assert_layout-fields : Fields (get_or (g.metadata_variants set) 15 empty) (λ v.
      let x = iface_assert_layout_of v in
      field g.assert_kind x.assert_kind ∷ field u32 x.target_id ∷ field (g.slot_types set) x.result_layout ∷ [])
  iface_assert_layout-fields = record { are = λ v. then (then one) }

  pub call_iface_layout-fields : Fields (get_or (g.metadata_variants set) 17 empty) (λ v.
      let x = call_iface_layout_of v in
      field u32 x.iface_meta_id ∷ field u32 x.method_idx ∷ field (g.slot_types set) x.arg_layout ∷ field (g.slot_types set) x.ret_layout ∷ [])
  call_iface_layout-fields = record { are = λ v. then (then (then one)) }

  -- "transfer words are judged after their whole list; the slot count last of all"
  pub function-fields : Fields (g.function set) (λ v.
      let x = function_of v in
      field str x.name ∷ field u16 x.param_count ∷ field u16 x.param_slots ∷ field u16 x.local_slots ∷ field u16 x.ret_slots
      ∷ field (g.slot_types set) x.ret_slot_types ∷ field u16 x.recv_slots ∷ field u16 x.heap_ret_gcref_count ∷ field u16 x.heap_ret_gcref_start
      ∷ field (g.list set of.U16 u16) x.heap_ret_slots ∷ field bool x.is_closure ∷ field u32 x.error_ret_slot ∷ field bool x.has_defer
      ∷ field (g.slot_types set) x.slot_types ∷ field (g.list set of.Instruction g.instruction) x.code
      ∷ field (g.list set of.InstructionMetadata (g.metadata set)) x.instruction_metadata
      ∷ asked (same_code (counted x.instruction_metadata) (counted x.code)) ∷ field (g.list set of.TransferType g.transfer) x.capture_types
      ∷ asked (transfer_words Refusals.capture_meta 0 (map (λ t. (number (transfer_of t).meta_raw, number (transfer_of t).rttid_raw)) (entries x.capture_types)))
      ∷ field (g.slot_types set) x.capture_slot_types ∷ field (g.list set of.TransferType g.transfer) x.param_types
      ∷ asked (transfer_words Refusals.parameter_meta 0 (map (λ t. (number (transfer_of t).meta_raw, number (transfer_of t).rttid_raw)) (entries x.param_types)))
      ∷ asked (same_slots (counted x.slot_types) (number x.local_slots)) ∷ [])
  unfolding g.function g.function_head g.function_returns g.function_traits g.function_body g.code g.transfers
  function-fields =
      record {
        are = λ v.
            next (then (then one))
            (then (next (then (then (then (then (then one)))))
            (next (then (then one))
            (then (next (then (then question)) (next (then question) (then (next (then question) question))))))));
      }

  pub artifact-fields : Fields (g.artifact set) (λ v.
      let x = artifact_of v in
      field (leaf (string (limit Refusals.module_artifact_limit_exceeded Refusals.artifact_name set.artifact_name_bytes) Refusals.artifact_name well_formed)) x.name
      ∷ field u32 x.version
      ∷ field (leaf (payload (limit Refusals.module_artifact_limit_exceeded Refusals.artifact_payload set.artifact_payload_bytes) Refusals.artifact_payload)) x.payload ∷ [])
  unfolding g.artifact
  artifact-fields = record { are = λ v. then (then one) }

  pub inline_function-fields : (left : ℕ) → Fields (g.inline_function set left) (λ v.
      let x = inline_function_of v in
      field u32 x.function_id
      ∷ field (list_of (limit Refusals.debug_metadata_limit_exceeded Refusals.inline_entries left) (size_of set of.InlineSourceEntry) g.inline_entry) x.entries ∷ [])
  unfolding g.inline_function
  inline_function-fields left = record { are = λ v. then one }

  -- each function with what those before it left of the entries' limit
  pub inline_functions-fields : (n : ℕ) → Fields (g.inline_functions set n) (λ v.
      field (leaf (count (limit Refusals.debug_metadata_limit_exceeded Refusals.inline_functions (min n set.inline_records)) 1 Refusals.vector (size_of set of.InlineFunctionSources))) (first v)
      ∷ field (chain (g.inline_function set) (λ left f. left - counted (inline_function_of f).entries) set.inline_records (counted v)) (second v) ∷ [])
  unfolding g.inline_functions
  inline_functions-fields n = record { are = λ v. then one }

  pub inline_sources-fields : (n : ℕ) → Fields (section set n inline_sources) (λ v.
      let x = inline_sources_of v in
      field (g.inline_frames set) x.frames ∷ field (g.inline_functions set n) x.functions ∷ [])
  unfolding section
  inline_sources-fields n = record { are = λ v. then one }

  -- The sections of a pack, behind magic and version; the last goes by the number of functions.
  -- the count of a list, and the question on it
  pub externs-fields : (n : ℕ) → Fields (section set n externs) (λ v.
      field (leaf (count free 1 Refusals.vector (size_of set of.ExternDef))) (first v) ∷ asked (no_host_calls (counted v)) ∷ [])
  unfolding section
  externs-fields n = record { are = λ v. then question }

  pub pack-fields : Fields (pack set) (λ v.
      field g.magic (first v) ∷ field g.version (first (second v))
      ∷ map (λ x. field (section set (counted (part_of functions v)) x) (part_of x v)) all_sections)
  unfolding pack g.sections g.after_functions section part_of
  pack-fields = record { are = λ v. then (then (then (then (then (then (then (then (then (then (then (then (then (then (then (then (then (then one))))))))))))))))) }
