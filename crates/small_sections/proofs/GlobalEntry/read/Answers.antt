use Rattle.reader.proofs.Reading.{reading}
use Rattle.vob24.specs.Grammar.{global}
use Rattle.std.proofs.Common.{rules}
use Rattle.small_sections.proofs.GlobalEntry.read.Goals as goal

pub returns : goal.returns
unfolding global
returns c = search (rules, reading)
