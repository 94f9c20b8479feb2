use Rattle.utf8_parts.proofs.Bytes.{Masked}
use Rattle.utf8_parts.proofs.sixteen.Given as goal

abbrev pub invariant-loop-k : goal.invariant-loop-k
invariant-loop-k l = Masked l.s l.to l.r l.m l.n l.k
