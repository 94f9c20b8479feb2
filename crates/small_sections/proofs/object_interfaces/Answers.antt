use Rattle.reader.proofs.Reading.{reading}
use Rattle.vob24.specs.Grammar.{object_interfaces}
use Rattle.std.proofs.Common.{rules}
use Rattle.small_sections.proofs.object_interfaces.Goals as goal

pub returns : goal.returns
unfolding object_interfaces
returns c = search (rules, reading)
