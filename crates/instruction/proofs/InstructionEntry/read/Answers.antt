use Rattle.vob24.specs.Grammar.{instruction}
use Rattle.reader.proofs.Reading.{reading}
use Rattle.std.proofs.Common.{rules}
use Rattle.instruction.proofs.InstructionEntry.read.Goals as goal

pub returns : goal.returns
unfolding instruction
returns c = search (rules, reading)
