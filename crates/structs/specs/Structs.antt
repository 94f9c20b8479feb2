-- The formats of the struct section under the Rust's settings.
use Rattle.format.specs.Format.{Format}
use Rattle.vob24.specs.Settings as of
use Rattle.vob24.specs.Settings.{Settings}
use Rattle.vob24.specs.Grammar as vob

abbrev pub field_format : Format
field_format = vob.struct_field

abbrev pub struct_format : Settings → Format
struct_format set = vob.struct set

-- the section
abbrev pub struct_list : Settings → Format
struct_list set = vob.list set of.StructMeta (vob.struct set)
