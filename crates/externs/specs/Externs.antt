-- The format of the externs under the Rust's settings: a list's count, and the question on it.
use Rattle.format.specs.Format.{Format, number, seq}
use Rattle.vob24.specs.Settings as of
use Rattle.vob24.specs.Settings.{Settings}
use Rattle.vob24.specs.Grammar as vob
use Rattle.vob24.specs.Questions.{no_host_calls}
use Rattle.fields.specs.Fields.{list_count}

abbrev pub extern_list : Settings → Format
extern_list set = seq (list_count set of.ExternDef) (λ n. vob.asking (no_host_calls (number n)))
