use Rattle.std.proofs.Common.{Ok}
use Rattle.reader.proofs.Laws.{Turns}
use Rattle.lists.proofs.entries.Given as goal

abbrev pub invariant-loop-k : goal.invariant-loop-k
invariant-loop-k g l = Turns (g.T.Entry.format l.entry) l.s l.initial.tape (Ok l.initial.here) l.initial.k l.tape (Ok l.here) l.k

abbrev pub decreases-loop-k : goal.decreases-loop-k
decreases-loop-k g l = l.k
