use Rattle.vob24.specs.Settings.{settings_of}
use Rattle.vob24.specs.Grammar.{externs}
use Rattle.deserialize.specs.Parts.{from_section}
use Rattle.deserialize.proofs.Laws.{number-lost}
use Rattle.deserialize.proofs.constants_on.Goals as goal

pub returns-in_err-n : goal.returns-in_err-n
returns-in_err-n c = number-lost (λ n. from_section (settings_of c.args.set.now) n externs) c.number_code.ensures c.in_err-n.was c.from_residual.ensures.1
