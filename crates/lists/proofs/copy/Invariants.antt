use Rattle.std.proofs.Common.{◌-◌, ◌+◌, ◌*◌, ◌≤◌, length}
use Rattle.lists.specs.Runs.{width}
use Rattle.lists.proofs.Copying.{Copying}
use Rattle.lists.proofs.copy.Given as goal

abbrev pub invariant-loop : goal.invariant-loop
invariant-loop g l =
    let ws = g.T.Fixed.widths l.entry in
    record {
      copying : Copying ws l.n l.s l.from l.initial.tape l.at l.tape l.p l.t (l.n - l.counter);
      there : l.p + width ws * (l.n - l.counter) ≤ length l.s;
    }
