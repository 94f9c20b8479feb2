use Rattle.std.proofs.Common.{◌-◌}
use Rattle.utf8.proofs.Laws.{Charing}
use Rattle.utf8.proofs.char.Given as goal

abbrev pub invariant-loop-i : goal.invariant-loop-i
invariant-loop-i l = Charing l.s l.to l.at.characters l.at.place (l.next - l.i) l.lo l.hi l.i
