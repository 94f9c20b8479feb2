use Rattle.utf8_parts.proofs.Bytes.{Testing}
use Rattle.utf8_parts.proofs.tested.Given as goal

abbrev pub invariant-loop-k : goal.invariant-loop-k
invariant-loop-k g l = Testing l.s l.from l.m l.n l.k
