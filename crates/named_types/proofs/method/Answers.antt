use Rattle.std.proofs.Common.{rules}
use Rattle.vob24.specs.Grammar.{method}
use Rattle.reader.proofs.Reading.{reading}
use Rattle.named_types.proofs.method.Goals as goal

pub returns : goal.returns
unfolding method
returns c = search (rules, reading)
