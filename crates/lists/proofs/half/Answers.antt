use Rattle.std.proofs.Common.{arith}
use Rattle.lists.proofs.Copying.{half_at}
use Rattle.lists.proofs.half.Goals as goal

pub returns : goal.returns
returns c = omega (arith, half_at c.args.s.now c.args.p (omega arith))
