use Rattle.std.proofs.Common.{◌∙◌, refl, arith}
use Rattle.utf8_parts.proofs.Bytes.{masked-more, masked-done}
use Rattle.utf8_parts.proofs.sixteen.Goals as goal

pub loop-k-preserved : goal.loop-k-preserved
loop-k-preserved c =
    masked-more (omega arith) (omega arith) (omega arith) c.loop-k.invariant
    (λ h k. record { stands = c.wrong.ensures (c.kept-m.ensures h k) })
    (λ h. c.counted-n.ensures.0 h ∙ c.trailing.ensures.0) c.counted-n.ensures.1

pub returns : goal.returns
returns c = (masked-done (omega arith) (omega arith) (omega arith) c.loop-k.invariant, refl)
