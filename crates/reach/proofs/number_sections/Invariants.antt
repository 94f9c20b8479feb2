use Rattle.std.proofs.Common.{◌≤◌, ◌≡◌, length}
use Rattle.vob24.specs.Settings.{settings_of}
use Rattle.reach.specs.Reach.{Between}
use Rattle.reach.proofs.number_sections.Given as goal

abbrev pub invariant-loop-i : goal.invariant-loop-i
invariant-loop-i l = Between (settings_of l.set) l.from l.i l.s l.initial.here l.initial.tape l.here l.tape × (l.from ≤ l.i) × (length l.tape ≡ length l.initial.tape)
