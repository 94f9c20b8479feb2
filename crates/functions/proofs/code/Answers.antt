use Rattle.vob24.specs.Settings.{settings_of}
use Rattle.vob24.specs.Refusals.{invalid_instruction_metadata}
use Rattle.format.specs.Trace.{wrong}
use Rattle.vob24.specs.Grammar.{code}
use Rattle.format.specs.Format.{counted, leaf, ask, seq}
use Rattle.metadata.specs.Records.{metadata_list}
use Rattle.vob24.specs.Questions.{same_code}
use Rattle.reader.proofs.Asks.{agree, differ}
use Rattle.reader.proofs.Laws.{up-refused, at-step, number_then, number_not, got-ready}
use Rattle.reader.proofs.Parts.{part_not}
use Rattle.functions.proofs.code.Goals as goal

pub returns-in_err-r : goal.returns-in_err-r
returns-in_err-r c = up-refused c.in_err-r.was c.from_residual.ensures.1

pub returns-in_err-instructions : goal.returns-in_err-instructions
unfolding code
returns-in_err-instructions c = part_not c.in_ok-r.was c.in_err-instructions.was c.from_residual-in_err-instructions.ensures.1 c.number_instructions.ensures

pub returns-in_err-metadata : goal.returns-in_err-metadata
unfolding code
returns-in_err-metadata c = at-step c.in_ok-r.was (number_then (λ m. seq (metadata_list (settings_of c.args.set.now)) (λ v. leaf (ask (same_code (counted v) m)))) c.in_ok-instructions.was c.number_instructions.ensures (number_not _ c.in_err-metadata.was c.from_residual-in_err-metadata.ensures.1 c.number_instruction_metadata.ensures))

pub returns-then-metadata-instructions : goal.returns-then-metadata-instructions
unfolding code
returns-then-metadata-instructions c = at-step c.in_ok-r.was (number_then (λ m. seq (metadata_list (settings_of c.args.set.now)) (λ v. leaf (ask (same_code (counted v) m)))) c.in_ok-instructions.was c.number_instructions.ensures (number_then (λ n. leaf (ask (same_code n c.in_ok-instructions.instructions))) c.in_ok-metadata.was c.number_instruction_metadata.ensures (differ c.in_ok-metadata.metadata c.in_ok-instructions.instructions (wrong invalid_instruction_metadata 0) (got-ready c.in_ok-metadata.was c.number_instruction_metadata.ensures) c.if-metadata-instructions.true c.refuse.ensures)))

pub returns : goal.returns
unfolding code
returns c = at-step c.in_ok-r.was (number_then (λ m. seq (metadata_list (settings_of c.args.set.now)) (λ v. leaf (ask (same_code (counted v) m)))) c.in_ok-instructions.was c.number_instructions.ensures (number_then (λ n. leaf (ask (same_code n c.in_ok-instructions.instructions))) c.in_ok-metadata.was c.number_instruction_metadata.ensures (agree c.in_ok-metadata.metadata c.in_ok-instructions.instructions (wrong invalid_instruction_metadata 0) (got-ready c.in_ok-metadata.was c.number_instruction_metadata.ensures) c.if-metadata-instructions.false)))
