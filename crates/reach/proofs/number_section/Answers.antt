use Rattle.vob24.specs.Settings.{settings_of}
use Rattle.vob24.specs.Grammar.{section}
use Rattle.reader.proofs.Accepting.{unknown}
use Rattle.reach.proofs.Laws.{between-refused, between-functions, between-other, got-ready}
use Rattle.reach.proofs.number_section.Goals as goal

pub returns-in_err-n : goal.returns-in_err-n
returns-in_err-n c = between-refused (settings_of c.args.set.now) c.in_err-n.was c.from_residual.ensures.1

pub number_functions-requires : goal.number_functions-requires
number_functions-requires c = got-ready (settings_of c.args.set.now) c.in_ok-n.was c.requires.1

pub returns-then-i-eq-FUNCTIONS : goal.returns-then-i-eq-FUNCTIONS
unfolding section
returns-then-i-eq-FUNCTIONS c = between-functions (settings_of c.args.set.now) c.in_ok-n.was c.if-i-eq-FUNCTIONS.true c.number_functions.ensures

pub section-requires : goal.section-requires
section-requires c = (got-ready (settings_of c.args.set.now) c.in_ok-n.was c.requires.1, unknown)

pub returns : goal.returns
returns c = between-other (settings_of c.args.set.now) c.in_ok-n.was c.section_at-x.result c.if-i-eq-FUNCTIONS.false c.requires.0 c.section_at-x.ensures c.section.ensures c.with_number.ensures
