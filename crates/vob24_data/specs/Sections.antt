-- What the code's sections stand for in the grammar.
use Rattle.std.specs.Prelude.{ℕ}
use Rattle.vob24.specs.Grammar as vob
use Rattle.vob24_data.specs.declared.Section.{Section}
use Rattle.vob24_data.specs.declared.Section.TheVariants.{Name, Structs, Interfaces, NamedTypes, Itabs, RuntimeTypes, WellKnown, Constants, Globals, Functions, Externs, Entry, IslandInit, Artifacts, Files, FunctionLocations, InlineSources}

abbrev pub section_of : Section → vob.Section
section_of Name = vob.name
section_of Structs = vob.structs
section_of Interfaces = vob.interfaces
section_of NamedTypes = vob.named_types
section_of Itabs = vob.itabs
section_of RuntimeTypes = vob.runtime_types
section_of WellKnown = vob.well_known
section_of Constants = vob.constants
section_of Globals = vob.globals
section_of Functions = vob.functions
section_of Externs = vob.externs
section_of Entry = vob.entry
section_of IslandInit = vob.island_init
section_of Artifacts = vob.artifacts
section_of Files = vob.files
section_of FunctionLocations = vob.function_locations
section_of (InlineSources n) = vob.inline_sources

-- the number of functions that bounds the inline sources; no other section goes by it
abbrev pub functions_of : Section → ℕ
functions_of Name = 0
functions_of Structs = 0
functions_of Interfaces = 0
functions_of NamedTypes = 0
functions_of Itabs = 0
functions_of RuntimeTypes = 0
functions_of WellKnown = 0
functions_of Constants = 0
functions_of Globals = 0
functions_of Functions = 0
functions_of Externs = 0
functions_of Entry = 0
functions_of IslandInit = 0
functions_of Artifacts = 0
functions_of Files = 0
functions_of FunctionLocations = 0
functions_of (InlineSources n) = n

-- the number of a section, in file order
abbrev pub number_of : vob.Section → ℕ
number_of vob.name = 0
number_of vob.structs = 1
number_of vob.interfaces = 2
number_of vob.named_types = 3
number_of vob.itabs = 4
number_of vob.runtime_types = 5
number_of vob.well_known = 6
number_of vob.constants = 7
number_of vob.globals = 8
number_of vob.functions = 9
number_of vob.externs = 10
number_of vob.entry = 11
number_of vob.island_init = 12
number_of vob.artifacts = 13
number_of vob.files = 14
number_of vob.function_locations = 15
number_of vob.inline_sources = 16
