use Rattle.std.proofs.Common.{◌-◌}
use Rattle.lists.specs.Runs.{CopiedLow}
use Rattle.lists.proofs.copy_low.Given as goal

abbrev pub invariant-loop-i : goal.invariant-loop-i
invariant-loop-i l = CopiedLow l.n l.s l.from l.most l.initial.tape l.at l.i l.tape

abbrev pub decreases-loop-i : goal.decreases-loop-i
decreases-loop-i l = l.n - l.i
