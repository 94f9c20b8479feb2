use Rattle.std.proofs.Common.{arith}
use Rattle.instruction.proofs.Copying.{put_five}
use Rattle.instruction.proofs.InstructionFixed.put.Goals as goal

pub returns : goal.returns
returns c = put_five c.args.s.now c.args.tape.now c.args.p c.args.at (omega arith) c.from.ensures c.from-2.ensures c.half.ensures c.half-2.ensures c.half-3.ensures
