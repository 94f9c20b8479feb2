-- The formats of the debug information under the Rust's settings.
use Rattle.std.specs.Prelude.{ℕ}
use Rattle.format.specs.Format.{Value, Format, second, ◌▸◌, counted}
use Rattle.vob24.specs.Settings as of
use Rattle.vob24.specs.Settings.{Settings}
use Rattle.vob24.specs.Leaves.{str}
use Rattle.vob24.specs.Grammar as vob

abbrev pub file_list : Settings → Format
file_list set = vob.list set of.String str

abbrev pub location_format : Format
location_format = vob.location

abbrev pub location_list : Settings → Format
location_list set = vob.list set of.DebugLoc vob.location

abbrev pub function_locations : Settings → Format
function_locations set = vob.list set of.FuncDebugInfo (location_list set)

abbrev pub span_format : Format
span_format = vob.span

abbrev pub frame_format : Format
frame_format = vob.frame

abbrev pub frame_list : Settings → Format
frame_list set = vob.inline_frames set

abbrev pub entry_format : Format
entry_format = vob.inline_entry

-- a function's entries, at most `left`
abbrev pub function_format : Settings → ℕ → Format
function_format set left = vob.inline_function set left

-- how many entries a function has
abbrev pub entries_of : Value → ℕ
entries_of v = counted (second v)

-- the functions, by the number of the module's functions
abbrev pub function_list : Settings → ℕ → Format
function_list set functions = vob.inline_functions set functions

abbrev pub inline_format : Settings → ℕ → Format
inline_format set functions = vob.inline_frames set ▸ vob.inline_functions set functions
