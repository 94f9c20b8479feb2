-- The formats of the field readers that vob24 has no name for, by their parameters.
use Rattle.std.specs.Prelude.{ℕ}
use Rattle.format.specs.Format.{byte, fixed, string, payload, count, Format, leaf}
use Rattle.vob24.specs.Refusals
use Rattle.vob24.specs.Settings as of
use Rattle.vob24.specs.Settings.{Settings, size_of}
use Rattle.vob24.specs.Utf8.{well_formed}
use Rattle.vob24.specs.Leaves.{free, at_most, at_most_bare, limit}
use Rattle.vob24.specs.Grammar.{metadata_tag, method_size}

-- the tag of a runtime type, a constant, a select case, an instruction's metadata
abbrev pub runtime_tag : Format
runtime_tag = leaf (fixed byte (at_most 12 Refusals.invalid_runtime_type))

abbrev pub constant_tag : Format
constant_tag = leaf (fixed byte (at_most_bare 4 Refusals.invalid_constant))

abbrev pub select_tag : Format
select_tag = leaf (fixed byte (at_most_bare 1 Refusals.invalid_instruction_metadata))

abbrev pub metadata_tagged : Format
metadata_tagged = leaf (fixed byte metadata_tag)

-- the count of a list of entries whose size is numbered i
abbrev pub list_count : Settings → ℕ → Format
list_count set i = leaf (count free 1 Refusals.vector (size_of set i))

-- the count of an inline list: the limit's context and maximum, the size
abbrev pub debug_count : Settings → ℕ → ℕ → ℕ → Format
debug_count set c m i = leaf (count (limit Refusals.debug_metadata_limit_exceeded c m) 1 Refusals.vector (size_of set i))

abbrev pub artifact_count : Settings → Format
artifact_count set = leaf (count (limit Refusals.module_artifact_limit_exceeded Refusals.artifact_count set.artifacts) 0 Refusals.module_artifacts (size_of set of.ModuleArtifact))

abbrev pub method_count : Settings → Format
method_count set = leaf (count free 14 Refusals.named_method_map (method_size set))

-- an artifact's name and payload
abbrev pub artifact_name : Settings → Format
artifact_name set = leaf (string (limit Refusals.module_artifact_limit_exceeded Refusals.artifact_name set.artifact_name_bytes) Refusals.artifact_name well_formed)

abbrev pub artifact_payload : Settings → Format
artifact_payload set = leaf (payload (limit Refusals.module_artifact_limit_exceeded Refusals.artifact_payload set.artifact_payload_bytes) Refusals.artifact_payload)
