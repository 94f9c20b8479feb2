use Rattle.std.proofs.Common.{◌≡◌, length}
use Rattle.vob24.specs.Settings.{settings_of}
use Rattle.deserialize.proofs.Laws.{Along}
use Rattle.deserialize.proofs.to_section.Given as goal

abbrev pub invariant-loop-i : goal.invariant-loop-i
invariant-loop-i l = Along (settings_of l.set) l.i l.s l.initial.here l.here × (length l.tape ≡ length l.initial.tape)
