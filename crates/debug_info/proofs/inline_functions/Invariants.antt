use Rattle.std.proofs.Common.{◌-◌}
use Rattle.vob24.specs.Settings.{settings_of}
use Rattle.debug_info.proofs.Laws.{Sharing}
use Rattle.debug_info.proofs.inline_functions.Given as goal

abbrev pub invariant-loop : goal.invariant-loop
invariant-loop l = Sharing (settings_of l.set) l.s l.initial.tape l.initial.here l.initial.left l.n l.tape l.here l.left (l.n - l.counter)
