use Rattle.vob24.specs.Settings.{settings_of}
use Rattle.in_place.proofs.Walking.{Walking}
use Rattle.source_lines.specs.Contract.{location_list}
use Rattle.source_lines.proofs.list_at.Given as goal

abbrev pub invariant-loop : goal.invariant-loop
invariant-loop l = Walking (location_list (settings_of l.set)) l.s l.from l.n l.p l.counter
