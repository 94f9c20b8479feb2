use Rattle.folding.specs.Contract.{PrefixIs}
use Rattle.folding.proofs.same_prefix.Given as goal

abbrev pub invariant-loop-i : goal.invariant-loop-i
invariant-loop-i l = PrefixIs l.s l.a l.e l.b l.f l.i
