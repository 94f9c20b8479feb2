-- The formats of the interface section under the Rust's settings.
use Rattle.format.specs.Format.{Format}
use Rattle.vob24.specs.Settings as of
use Rattle.vob24.specs.Settings.{Settings}
use Rattle.vob24.specs.Grammar as vob

abbrev pub method_format : Format
method_format = vob.interface_method

abbrev pub interface_format : Settings → Format
interface_format set = vob.interface set

-- the section
abbrev pub interface_list : Settings → Format
interface_list set = vob.list set of.InterfaceMeta (vob.interface set)
