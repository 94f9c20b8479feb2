use Rattle.std.proofs.Common.{◌-◌}
use Rattle.vob24.specs.Settings.{settings_of}
use Rattle.vob24.specs.Grammar.{list}
use Rattle.alike_names.proofs.Pairs.{Walked}
use Rattle.alike_names.proofs.sections.records.Given as goal

abbrev pub invariant-loop : goal.invariant-loop
invariant-loop g l =
    let r = g.R.Record in
    Walked (list (settings_of l.set) r.kind (r.form (settings_of l.set))) (r.form (settings_of l.set)) r.tables_of l.s l.p l.at (l.n - l.counter)
