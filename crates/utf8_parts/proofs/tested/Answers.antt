use Rattle.std.proofs.Common.{arith, refl}
use Rattle.utf8_parts.proofs.Bytes.{testing-more, testing-done}
use Rattle.utf8_parts.proofs.tested.Goals as goal

pub loop-k-preserved : goal.loop-k-preserved
loop-k-preserved g c =
    testing-more c.loop-k.invariant (c.requires.enough.each _ _ (omega arith) (omega arith) c.test-m.ensures) c.trailing-n.ensures.0

pub returns : goal.returns
returns g c = (testing-done (omega arith) c.loop-k.invariant, refl)
