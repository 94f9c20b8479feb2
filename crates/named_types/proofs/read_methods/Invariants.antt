use Rattle.std.proofs.Common.{Ok}
use Rattle.named_types.proofs.Laws.{Unjudged}
use Rattle.named_types.proofs.read_methods.Given as goal

abbrev pub invariant-loop-i : goal.invariant-loop-i
invariant-loop-i l = Unjudged l.s l.initial.tape (Ok l.initial.here) l.n l.first l.d.place l.tape (Ok l.here) l.i
