use Rattle.std.proofs.Common.{arith, refl}
use Rattle.lists.proofs.Copying.{byte_at}
use Rattle.lists.proofs.U8Fixed.put.Goals as goal

pub returns : goal.returns
returns c = rw (c.from.ensures, byte_at c.args.s.now c.args.p (omega arith)) refl
