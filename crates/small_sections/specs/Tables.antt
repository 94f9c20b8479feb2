-- The formats of the tables under the Rust's settings.
use Rattle.format.specs.Format.{Format, number, seq, ◌▸◌, times}
use Rattle.vob24.specs.Settings as of
use Rattle.vob24.specs.Settings.{Settings}
use Rattle.vob24.specs.Leaves.{u16, optional}
use Rattle.vob24.specs.Grammar as vob
use Rattle.fields.specs.Fields.{artifact_count}

abbrev pub itab_format : Settings → Format
itab_format set = vob.itab set

abbrev pub itab_list : Settings → Format
itab_list set = vob.list set of.Itab (vob.itab set)

abbrev pub field_offsets : Format
field_offsets = optional (u16 ▸ u16)

abbrev pub error_format : Format
error_format = vob.error_types

abbrev pub object_format : Format
object_format = vob.object_interfaces

abbrev pub well_known : Format
well_known = vob.error_types ▸ vob.object_interfaces

abbrev pub global_format : Settings → Format
global_format set = vob.global set

abbrev pub global_list : Settings → Format
global_list set = vob.list set of.GlobalDef (vob.global set)

abbrev pub artifact_format : Settings → Format
artifact_format set = vob.artifact set

abbrev pub artifact_list : Settings → Format
artifact_list set = seq (artifact_count set) (λ n. times (vob.artifact set) (number n))
