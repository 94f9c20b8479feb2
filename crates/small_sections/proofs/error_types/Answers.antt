use Rattle.reader.proofs.Reading.{reading}
use Rattle.vob24.specs.Grammar.{error_types}
use Rattle.std.proofs.Common.{rules}
use Rattle.small_sections.proofs.error_types.Goals as goal

pub returns : goal.returns
unfolding error_types
returns c = search (rules, reading)
