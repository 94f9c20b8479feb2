use Rattle.std.proofs.Common.{length}
use Rattle.folding.proofs.Folded.{Comparing}
use Rattle.folding.specs.Contract.{ahead}
use Rattle.folding.proofs.same_folded.Given as goal

abbrev pub invariant-loop-x : goal.invariant-loop-x
invariant-loop-x l = Comparing l.s l.a l.m l.b l.n l.left l.right

abbrev pub decreases-loop-x : goal.decreases-loop-x
decreases-loop-x l = length (ahead l.s l.left)
