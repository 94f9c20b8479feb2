-- Document 01's refusal numbers and contexts, by its names.
use Rattle.std.specs.Prelude.{ℕ}
pub use Rattle.format.specs.Trace.{unexpected_eof, allocation_budget_exceeded, invalid_utf8, invalid_source_integer}

abbrev pub input_too_large : ℕ
input_too_large = 1

abbrev pub invalid_magic : ℕ
invalid_magic = 3

abbrev pub unsupported_version : ℕ
unsupported_version = 4

abbrev pub invalid_boolean : ℕ
invalid_boolean = 7

abbrev pub invalid_slot_type : ℕ
invalid_slot_type = 8

abbrev pub invalid_value_kind : ℕ
invalid_value_kind = 9

abbrev pub invalid_packed_value_meta : ℕ
invalid_packed_value_meta = 10

abbrev pub invalid_packed_value_rttid : ℕ
invalid_packed_value_rttid = 11

abbrev pub invalid_chan_dir : ℕ
invalid_chan_dir = 12

abbrev pub invalid_runtime_type : ℕ
invalid_runtime_type = 13

abbrev pub invalid_constant : ℕ
invalid_constant = 14

abbrev pub invalid_instruction_metadata : ℕ
invalid_instruction_metadata = 15

abbrev pub duplicate_struct_field : ℕ
duplicate_struct_field = 16

abbrev pub duplicate_interface_method : ℕ
duplicate_interface_method = 17

abbrev pub duplicate_named_method : ℕ
duplicate_named_method = 18

abbrev pub duplicate_runtime_struct_field : ℕ
duplicate_runtime_struct_field = 19

abbrev pub invalid_function_metadata : ℕ
invalid_function_metadata = 20

abbrev pub module_artifact_limit_exceeded : ℕ
module_artifact_limit_exceeded = 22

abbrev pub debug_metadata_limit_exceeded : ℕ
debug_metadata_limit_exceeded = 23

abbrev pub trailing_bytes : ℕ
trailing_bytes = 24

abbrev pub host_calls : ℕ
host_calls = 25

abbrev pub no_room : ℕ
no_room = 26

abbrev pub no_such_artifact : ℕ
no_such_artifact = 27

-- Contexts: what a charge or a limit is for.

abbrev pub byte_string : ℕ
byte_string = 1

abbrev pub vector : ℕ
vector = 2

abbrev pub struct_field_index : ℕ
struct_field_index = 3

abbrev pub struct_field_key : ℕ
struct_field_key = 4

abbrev pub interface_method_set : ℕ
interface_method_set = 5

abbrev pub named_method_map : ℕ
named_method_map = 6

abbrev pub runtime_struct_field_set : ℕ
runtime_struct_field_set = 7

abbrev pub module_artifacts : ℕ
module_artifacts = 8

abbrev pub artifact_name : ℕ
artifact_name = 9

abbrev pub artifact_payload : ℕ
artifact_payload = 10

abbrev pub artifact_count : ℕ
artifact_count = 11

abbrev pub inline_frames : ℕ
inline_frames = 12

abbrev pub inline_functions : ℕ
inline_functions = 13

abbrev pub inline_entries : ℕ
inline_entries = 14

-- What of a function is wrong where 20 is given.
abbrev pub capture_meta : ℕ
capture_meta = 1

abbrev pub parameter_meta : ℕ
parameter_meta = 3

abbrev pub slot_count : ℕ
slot_count = 5
