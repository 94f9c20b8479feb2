use Rattle.vob24.specs.Settings.{settings_of}
use Rattle.lookup.proofs.Laws.{Looking}
use Rattle.lookup.proofs.look.Given as goal

abbrev pub invariant-loop : goal.invariant-loop
invariant-loop l = Looking (settings_of l.set) l.s l.from l.n l.name l.end l.at l.counter
