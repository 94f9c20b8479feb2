-- The formats of the members of runtime types, under the settings.
use Rattle.std.specs.Prelude.{ℕ, map}
use Rattle.format.specs.Format.{Value, first, entries, counted, Format, ask, leaf, seq}
use Rattle.vob24.specs.Settings as of
use Rattle.vob24.specs.Settings.{Settings}
use Rattle.vob24.specs.Grammar as vob

abbrev pub field_format : Format
field_format = vob.runtime_field

abbrev pub field_list : Settings → Format
field_list set = vob.list set of.StructField field_format

-- with the questions on their identities
abbrev pub new_fields : Settings → Format
new_fields set = seq (field_list set) (λ v. leaf (ask (vob.field_set set (map vob.identity (entries v)))))

abbrev pub method_format : Format
method_format = vob.runtime_method

abbrev pub method_list : Settings → Format
method_list set = vob.list set of.InterfaceMethod method_format

-- with the questions on their names
abbrev pub new_methods : Settings → Format
new_methods set = seq (method_list set) (λ v. leaf (ask (vob.method_set set (map vob.method_name (entries v)))))

abbrev pub new_count : Value → ℕ
new_count v = counted (first v)
