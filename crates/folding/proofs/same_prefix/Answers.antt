use Rattle.std.proofs.Common.{sym, ◌∙◌, arith}
use Rattle.folding.proofs.Folded.{prefix-more}
use Rattle.folding.proofs.same_prefix.Goals as goal

pub loop-i-preserved : goal.loop-i-preserved
loop-i-preserved c =
    prefix-more c.requires.1 c.requires.3 c.loop-i.invariant (omega arith) (omega arith) c.if-s-a.false (sym c.opens.ensures ∙ c.if-opens.false)
