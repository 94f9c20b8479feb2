-- The formats of the functions section, under the settings.
use Rattle.std.specs.Prelude.{ℕ}
use Rattle.format.specs.Format.{counted, Format, seq}
use Rattle.vob24.specs.Refusals.{capture_meta, parameter_meta}
use Rattle.vob24.specs.Settings as of
use Rattle.vob24.specs.Settings.{Settings}
use Rattle.vob24.specs.Grammar as vob

abbrev pub code_format : Settings → Format
code_format set = vob.code set

abbrev pub transfer_format : Format
transfer_format = vob.transfer

-- context is that of the meta word
abbrev pub transfer_types : Settings → ℕ → Format
transfer_types set context = vob.transfers set context

abbrev pub capture_types : Settings → Format
capture_types set = transfer_types set capture_meta

abbrev pub param_types : Settings → Format
param_types set = transfer_types set parameter_meta

abbrev pub function_head : Format
function_head = vob.function_head

abbrev pub function_returns : Settings → Format
function_returns set = vob.function_returns set

abbrev pub function_traits : Format
function_traits = vob.function_traits

abbrev pub function_body : Settings → ℕ → ℕ → Format
function_body set types locals = vob.function_body set types locals

-- the slot types, and the body by how many they are
abbrev pub function_slots : Settings → ℕ → Format
function_slots set locals = seq (vob.slot_types set) (λ types. (function_body set) (counted types) locals)

abbrev pub function_format : Settings → Format
function_format set = vob.function set

abbrev pub function_list : Settings → Format
function_list set = vob.list set of.FunctionDef (function_format set)
