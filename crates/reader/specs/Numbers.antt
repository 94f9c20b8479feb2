-- Document 01's numbers of the code's kinds of refusal, contexts and parts of a function.
use Rattle.std.specs.Prelude.{ℕ}
use Rattle.vob24.specs.Refusals as vob
use Rattle.reader.specs.declared.kinds.Kind.{Kind}
use Rattle.reader.specs.declared.kinds.Kind.TheVariants.{InputTooLarge, UnexpectedEof, InvalidMagic, UnsupportedVersion, AllocationBudgetExceeded, InvalidUtf8, InvalidBoolean, InvalidSlotType, InvalidValueKind, InvalidPackedValueMeta, InvalidPackedValueRttid, InvalidChanDir, InvalidRuntimeType, InvalidConstant, InvalidInstructionMetadata, DuplicateStructField, DuplicateInterfaceMethod, DuplicateNamedMethod, DuplicateRuntimeStructField, InvalidFunctionMetadata, InvalidSourceInteger, ModuleArtifactLimitExceeded, DebugMetadataLimitExceeded, TrailingBytes, HostCalls, NoRoom, NoSuchArtifact, NoSuchFunction}
use Rattle.reader.specs.declared.kinds.Context.{Context}
use Rattle.reader.specs.declared.kinds.Part.{Part}
use Rattle.reader.specs.declared.kinds.Part.TheVariants.{CaptureMeta, ParameterMeta, SlotCount}
use Rattle.reader.specs.declared.kinds.Context.TheVariants.{ByteString, Vector, StructFieldIndex, StructFieldKey, InterfaceMethodSet, NamedMethodMap, RuntimeStructFieldSet, ModuleArtifacts, ArtifactName, ArtifactPayload, ArtifactCount, InlineFrames, InlineFunctions, InlineEntries}

abbrev pub kind_number : Kind → ℕ
kind_number InputTooLarge = vob.input_too_large
kind_number UnexpectedEof = vob.unexpected_eof
kind_number InvalidMagic = vob.invalid_magic
kind_number UnsupportedVersion = vob.unsupported_version
kind_number AllocationBudgetExceeded = vob.allocation_budget_exceeded
kind_number InvalidUtf8 = vob.invalid_utf8
kind_number InvalidBoolean = vob.invalid_boolean
kind_number InvalidSlotType = vob.invalid_slot_type
kind_number InvalidValueKind = vob.invalid_value_kind
kind_number InvalidPackedValueMeta = vob.invalid_packed_value_meta
kind_number InvalidPackedValueRttid = vob.invalid_packed_value_rttid
kind_number InvalidChanDir = vob.invalid_chan_dir
kind_number InvalidRuntimeType = vob.invalid_runtime_type
kind_number InvalidConstant = vob.invalid_constant
kind_number InvalidInstructionMetadata = vob.invalid_instruction_metadata
kind_number DuplicateStructField = vob.duplicate_struct_field
kind_number DuplicateInterfaceMethod = vob.duplicate_interface_method
kind_number DuplicateNamedMethod = vob.duplicate_named_method
kind_number DuplicateRuntimeStructField = vob.duplicate_runtime_struct_field
kind_number InvalidFunctionMetadata = vob.invalid_function_metadata
kind_number InvalidSourceInteger = vob.invalid_source_integer
kind_number ModuleArtifactLimitExceeded = vob.module_artifact_limit_exceeded
kind_number DebugMetadataLimitExceeded = vob.debug_metadata_limit_exceeded
kind_number TrailingBytes = vob.trailing_bytes
kind_number HostCalls = vob.host_calls
kind_number NoRoom = vob.no_room
kind_number NoSuchArtifact = vob.no_such_artifact
kind_number NoSuchFunction = 28

abbrev pub context_number : Context → ℕ
context_number ByteString = vob.byte_string
context_number Vector = vob.vector
context_number StructFieldIndex = vob.struct_field_index
context_number StructFieldKey = vob.struct_field_key
context_number InterfaceMethodSet = vob.interface_method_set
context_number NamedMethodMap = vob.named_method_map
context_number RuntimeStructFieldSet = vob.runtime_struct_field_set
context_number ModuleArtifacts = vob.module_artifacts
context_number ArtifactName = vob.artifact_name
context_number ArtifactPayload = vob.artifact_payload
context_number ArtifactCount = vob.artifact_count
context_number InlineFrames = vob.inline_frames
context_number InlineFunctions = vob.inline_functions
context_number InlineEntries = vob.inline_entries

abbrev pub part_number : Part → ℕ
part_number CaptureMeta = vob.capture_meta
part_number ParameterMeta = vob.parameter_meta
part_number SlotCount = vob.slot_count
