use Rattle.std.proofs.Common.{◌-◌}
use Rattle.in_place.proofs.Walking.{Leaving}
use Rattle.vob24.specs.Settings.{settings_of}
use Rattle.vob24.specs.Grammar.{itab, section, itabs}
use Rattle.in_place.specs.Walk.{next_at}
use Rattle.alike_names.proofs.skips.past_itabs.Given as goal

abbrev pub invariant-loop : goal.invariant-loop
invariant-loop l =
    Leaving (itab (settings_of l.set)) l.s (next_at (section (settings_of l.set) 0 itabs) l.s l.p) l.at (l.n - l.counter)
