use Rattle.reader.proofs.Reading.{reading}
use Rattle.vob24.specs.Grammar.{span}
use Rattle.std.proofs.Common.{rules}
use Rattle.debug_info.proofs.span.Goals as goal

pub returns : goal.returns
unfolding span
returns c = search (rules, reading)
