-- Document 01's cost, "What is charged", worked out from a record and its texts alone: a clause for each record, and no
-- use of the grammar's charges. `PackCost` proves it equal to what a reading charges.
use Rattle.std.specs.Prelude.{ℕ, ◌+◌, ◌*◌, List, [], ◌∷◌, map, length, get_or}
use Rattle.format.specs.Trace.{sum}
use Rattle.format.specs.Format.{Value, number, content, first, entries, counted}
use Rattle.format.specs.Record.{decode}
use Rattle.vob24.specs.Settings as of
use Rattle.vob24.specs.Settings.{Settings, size_of}
use Rattle.vob24.specs.Fields.{after, variant_of, struct_field_of, struct_of, interface_method_of, interface_of, method_of, new_method_of, named_type_of, itab_of, runtime_field_of, runtime_method_of, func_of, runtime_struct_of, runtime_interface_of, global_of, elem_layout_of, map_get_of, map_layouts_of, slot_layout_of, call_layout_of, iface_assert_layout_of, call_iface_layout_of, function_of, artifact_of, inline_function_of, inline_sources_of}
use Rattle.vob24.specs.Questions.{named}
use Rattle.vob24.specs.Grammar.{Section, name, structs, interfaces, named_types, itabs, runtime_types, well_known, constants, globals, functions, externs, entry, island_init, artifacts, files, function_locations, inline_sources, section, pack}

-- "text and payload their length"
abbrev pub text_cost : Value → ℕ
text_cost v = length (content v)

-- A field that costs nothing: a number.
abbrev pub nothing : Value → ℕ
nothing v = 0

-- "A list costs count × its entry's size", and what its entries cost.
abbrev pub list_cost : ℕ → (Value → ℕ) → Value → ℕ
list_cost size item v = counted v * size + sum (map item (entries v))

-- A variant costs what the part of its tag costs.
abbrev pub variant_cost : List (Value → ℕ) → Value → ℕ
variant_cost parts v = get_or parts (number (variant_of v).tag) nothing (variant_of v).part

abbrev pub optional_cost : (Value → ℕ) → Value → ℕ
optional_cost part = variant_cost (nothing ∷ part ∷ [])

module _ (set : Settings) where
  abbrev pub slot_types_cost : Value → ℕ
  slot_types_cost = list_cost (size_of set of.SlotType) nothing

  unfoldable pub struct_field_cost : Value → ℕ
  struct_field_cost v = text_cost (struct_field_of v).name + optional_cost text_cost (struct_field_of v).tag

  -- "per struct, for fields not "_", (String, usize) each and then, name by name, its length"
  unfoldable pub struct_cost : Value → ℕ
  struct_cost v =
      let fields = (struct_of v).fields in
      let names = named (map (λ field. (struct_field_of field).name) (entries fields)) in
      slot_types_cost (struct_of v).slot_types
      + list_cost (size_of set of.FieldMeta) struct_field_cost fields
      + (length names * size_of set of.StringUsize + sum (map text_cost names))

  unfoldable pub interface_method_cost : Value → ℕ
  interface_method_cost v = text_cost (interface_method_of v).name

  -- "per interface list and runtime interface, names × 2 × &str"
  abbrev pub method_set_cost : Value → ℕ
  method_set_cost list = counted list * 2 * size_of set of.Str

  unfoldable pub interface_cost : Value → ℕ
  interface_cost v =
      let names = (interface_of v).method_names in
      let methods = (interface_of v).methods in
      text_cost (interface_of v).name
      + list_cost (size_of set of.String) text_cost names
      + list_cost (size_of set of.InterfaceMethodMeta) interface_method_cost methods
      + (method_set_cost names + method_set_cost methods)

  unfoldable pub method_cost : Value → ℕ
  method_cost v = text_cost (method_of (new_method_of v).method).name

  -- "per named type, methods × ((String, MethodInfo) + 3 × usize)", in place of a list's
  unfoldable pub named_type_cost : Value → ℕ
  named_type_cost v = text_cost (named_type_of v).name + list_cost (size_of set of.StringMethodInfo + 3 * size_of set of.Usize) method_cost (named_type_of v).methods

  unfoldable pub itab_cost : Value → ℕ
  itab_cost v = list_cost (size_of set of.U32) nothing (itab_of v).methods

  unfoldable pub runtime_field_cost : Value → ℕ
  runtime_field_cost v = text_cost (runtime_field_of v).name + text_cost (runtime_field_of v).tag + text_cost (runtime_field_of v).pkg

  -- "per runtime struct, all fields × 2 × (&str, &str)"
  unfoldable pub runtime_struct_cost : Value → ℕ
  runtime_struct_cost v = let fields = (runtime_struct_of v).fields in list_cost (size_of set of.StructField) runtime_field_cost fields + counted fields * 2 * size_of set of.StrStr

  unfoldable pub runtime_method_cost : Value → ℕ
  runtime_method_cost v = text_cost (runtime_method_of v).name

  unfoldable pub runtime_interface_cost : Value → ℕ
  runtime_interface_cost v = let methods = (runtime_interface_of v).methods in list_cost (size_of set of.InterfaceMethod) runtime_method_cost methods + method_set_cost methods

  abbrev pub rttids_cost : Value → ℕ
  rttids_cost = list_cost (size_of set of.ValueRttid) nothing

  unfoldable pub func_cost : Value → ℕ
  func_cost v = rttids_cost (func_of v).params + rttids_cost (func_of v).results

  -- Basic, Named, Pointer, Array, Slice, Map, Chan, Func, Struct, Interface, Tuple, Port, Island
  unfoldable pub runtime_type_cost : Value → ℕ
  runtime_type_cost =
      variant_cost
      (nothing ∷ nothing ∷ nothing ∷ nothing ∷ nothing ∷ nothing ∷ nothing ∷ func_cost ∷ runtime_struct_cost ∷ runtime_interface_cost ∷ rttids_cost ∷ nothing ∷ nothing ∷ [])

  -- Nil, Bool, Int, Float, String
  unfoldable pub constant_cost : Value → ℕ
  constant_cost = variant_cost (nothing ∷ nothing ∷ nothing ∷ nothing ∷ text_cost ∷ [])

  unfoldable pub global_cost : Value → ℕ
  global_cost v = text_cost (global_of v).name + slot_types_cost (global_of v).slot_types

  abbrev pub map_layouts_cost : Value → ℕ
  map_layouts_cost v = slot_types_cost (map_layouts_of v).key_layout + slot_types_cost (map_layouts_of v).val_layout

  abbrev pub call_layout_cost : Value → ℕ
  call_layout_cost v = slot_types_cost (call_layout_of v).arg_layout + slot_types_cost (call_layout_of v).ret_layout

  -- None, ElemLayout, MapGet, MapSet, MapDelete, LoopEnd, three tags that are not in use, PtrLayout, SlotLayout,
  -- CallLayout, CallExternLayout, QueueLayout, MapIterNext, IfaceAssertLayout, MapNew, CallIfaceLayout,
  -- SelectExecLayout
  unfoldable pub metadata_cost : Value → ℕ
  metadata_cost =
      variant_cost
      (nothing
      ∷ (λ v. slot_types_cost (elem_layout_of v).slot_layout)
      ∷ (λ v. slot_types_cost (map_get_of v).key_layout + slot_types_cost (map_get_of v).val_layout)
      ∷ map_layouts_cost ∷ slot_types_cost ∷ nothing ∷ nothing ∷ nothing ∷ nothing ∷ slot_types_cost
      ∷ (λ v. slot_types_cost (slot_layout_of v).elem_layout)
      ∷ call_layout_cost ∷ call_layout_cost ∷ slot_types_cost ∷ map_layouts_cost
      ∷ (λ v. slot_types_cost (iface_assert_layout_of v).result_layout)
      ∷ map_layouts_cost
      ∷ (λ v. slot_types_cost (call_iface_layout_of v).arg_layout + slot_types_cost (call_iface_layout_of v).ret_layout)
      ∷ list_cost (size_of set of.SelectCaseLayout) nothing ∷ [])

  abbrev pub transfers_cost : Value → ℕ
  transfers_cost = list_cost (size_of set of.TransferType) nothing

  unfoldable pub function_cost : Value → ℕ
  function_cost v =
      text_cost (function_of v).name
      + slot_types_cost (function_of v).ret_slot_types
      + list_cost (size_of set of.U16) nothing (function_of v).heap_ret_slots
      + slot_types_cost (function_of v).slot_types
      + list_cost (size_of set of.Instruction) nothing (function_of v).code
      + list_cost (size_of set of.InstructionMetadata) metadata_cost (function_of v).instruction_metadata
      + transfers_cost (function_of v).capture_types
      + slot_types_cost (function_of v).capture_slot_types
      + transfers_cost (function_of v).param_types

  unfoldable pub artifact_cost : Value → ℕ
  artifact_cost v = text_cost (artifact_of v).name + text_cost (artifact_of v).payload

  unfoldable pub inline_function_cost : Value → ℕ
  inline_function_cost v = list_cost (size_of set of.InlineSourceEntry) nothing (inline_function_of v).entries

  unfoldable pub inline_sources_cost : Value → ℕ
  inline_sources_cost v =
      list_cost (size_of set of.InlineSourceFrame) nothing (inline_sources_of v).frames
      + list_cost (size_of set of.InlineFunctionSources) inline_function_cost (inline_sources_of v).functions

-- The cost of a section.
unfoldable pub section_cost : Settings → Section → Value → ℕ
section_cost set name = text_cost
section_cost set structs = list_cost (size_of set of.StructMeta) (struct_cost set)
section_cost set interfaces = list_cost (size_of set of.InterfaceMeta) (interface_cost set)
section_cost set named_types = list_cost (size_of set of.NamedTypeMeta) (named_type_cost set)
section_cost set itabs = list_cost (size_of set of.Itab) (itab_cost set)
section_cost set runtime_types = list_cost (size_of set of.RuntimeType) (runtime_type_cost set)
section_cost set well_known = nothing
section_cost set constants = list_cost (size_of set of.Constant) (constant_cost set)
section_cost set globals = list_cost (size_of set of.GlobalDef) (global_cost set)
section_cost set functions = list_cost (size_of set of.FunctionDef) (function_cost set)
section_cost set externs = list_cost (size_of set of.ExternDef) nothing
section_cost set entry = nothing
section_cost set island_init = nothing
-- "ModuleArtifact × count", in place of a list's
section_cost set artifacts = list_cost (size_of set of.ModuleArtifact) (artifact_cost set)
section_cost set files = list_cost (size_of set of.String) text_cost
section_cost set function_locations = list_cost (size_of set of.FuncDebugInfo) (list_cost (size_of set of.DebugLoc) nothing)
section_cost set inline_sources = inline_sources_cost set

-- The part of a pack's value that is a section's; magic and version stand before the first.
unfoldable pub part_of : Section → Value → Value
part_of name v = first (after 2 v)
part_of structs v = first (after 3 v)
part_of interfaces v = first (after 4 v)
part_of named_types v = first (after 5 v)
part_of itabs v = first (after 6 v)
part_of runtime_types v = first (after 7 v)
part_of well_known v = first (after 8 v)
part_of constants v = first (after 9 v)
part_of globals v = first (after 10 v)
part_of functions v = first (after 11 v)
part_of externs v = first (after 12 v)
part_of entry v = first (after 13 v)
part_of island_init v = first (after 14 v)
part_of artifacts v = first (after 15 v)
part_of files v = first (after 16 v)
part_of function_locations v = first (after 17 v)
part_of inline_sources v = after 18 v

-- "all sections, from name to inline sources"
abbrev pub all_sections : List Section
all_sections = name ∷ structs ∷ interfaces ∷ named_types ∷ itabs ∷ runtime_types ∷ well_known ∷ constants ∷ globals ∷ functions ∷ externs ∷ entry ∷ island_init ∷ artifacts ∷ files ∷ function_locations ∷ inline_sources ∷ []

unfoldable pub pack_cost : Settings → Value → ℕ
pack_cost set v = sum (map (λ x. section_cost set x (part_of x v)) all_sections)

-- Document 01's cost of a record: from the words, and the bytes of the texts that they point to in s.
abbrev pub record_cost : Settings → List ℕ → List ℕ → ℕ
record_cost set ws s = pack_cost set (decode (pack set) ws s).0

-- The same of a section's record.
abbrev pub section_record_cost : Settings → ℕ → Section → List ℕ → List ℕ → ℕ
section_record_cost set n x ws s = section_cost set x (decode (section set n x) ws s).0
