use Rattle.std.proofs.Common.{rules}
use Rattle.reader.proofs.Reading.{reading}
use Rattle.vob24.specs.Grammar.{runtime_field}
use Rattle.runtime_members.proofs.FieldEntry.read.Goals as goal

pub returns : goal.returns
unfolding runtime_field
returns c = search (rules, reading)
