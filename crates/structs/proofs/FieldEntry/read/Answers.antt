use Rattle.std.proofs.Common.{rules}
use Rattle.vob24.specs.Grammar.{struct_field}
use Rattle.reader.proofs.Reading.{reading}
use Rattle.structs.proofs.FieldEntry.read.Goals as goal

pub returns : goal.returns
unfolding struct_field
returns c = search (rules, reading)
