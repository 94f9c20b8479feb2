use Rattle.std.proofs.Common.{◌-◌}
use Rattle.in_place.specs.Items.{format_of}
use Rattle.in_place.specs.Walk.{last_at}
use Rattle.in_place.proofs.Walking.{Leaving}
use Rattle.in_place.proofs.past_items.Given as goal

abbrev pub invariant-loop : goal.invariant-loop
invariant-loop l = Leaving (format_of l.item) l.s (last_at (format_of l.item) l.n l.s l.from) l.p (l.n - l.counter)
