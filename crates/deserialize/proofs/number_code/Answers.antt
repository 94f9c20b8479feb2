use Rattle.vob24.specs.Settings.{settings_of}
use Rattle.vob24.specs.Grammar.{section, externs}
use Rattle.reader.proofs.Laws.{ready_at, comes-at, comes-next}
use Rattle.deserialize.specs.Parts.{from_section}
use Rattle.deserialize.proofs.Laws.{no_code, number-comes, lost-comes}
use Rattle.deserialize.proofs.number_code.Goals as goal

pub returns-in_err-c : goal.returns-in_err-c
returns-in_err-c c = lost-comes (λ n. from_section (settings_of c.args.set.now) n externs) _ c.in_err-c.was c.from_residual.ensures.1

pub returns-then-empty_at : goal.returns-then-empty_at
returns-then-empty_at c = comes-at c.in_ok-c.was (no_code (settings_of c.args.set.now) (ready_at c.in_ok-c.was c.requires) (c.empty_at.ensures c.if-empty_at.true) c.past_empty.ensures)

pub returns-in_err-r2 : goal.returns-in_err-r2
unfolding section
returns-in_err-r2 c = comes-next c.constants-r1.ensures (comes-next c.globals-r2.ensures (lost-comes (λ n. from_section (settings_of c.args.set.now) n externs) _ c.in_err-r2.was c.from_residual-in_err-r2.ensures.1))

pub returns : goal.returns
unfolding section
returns c = comes-next c.constants-r1.ensures (comes-next c.globals-r2.ensures (comes-at c.in_ok-r2.was (number-comes (λ n. from_section (settings_of c.args.set.now) n externs) c.number_functions.ensures)))
