use Rattle.std.proofs.Common.{arith, rules}
use Rattle.vob24.specs.Settings.{settings_of}
use Rattle.reach.proofs.Laws.{between_start, between_more, between-end}
use Rattle.reach.proofs.number_sections.Goals as goal

pub loop-i-init : goal.loop-i-init
loop-i-init c = (between_start (settings_of c.args.set.now) c.requires.2, omega arith, search rules)

pub number_section-here-requires : goal.number_section-here-requires
number_section-here-requires c = (omega (arith, c.requires.1), c.loop-i.invariant.0.comes.ready)

pub loop-i-preserved : goal.loop-i-preserved
loop-i-preserved c = (between_more (settings_of c.args.set.now) c.loop-i.invariant.1 (omega arith) c.loop-i.invariant.0 c.number_section-here.ensures, omega arith, search rules)

pub returns : goal.returns
returns c = between-end (settings_of c.args.set.now) (omega (arith, c.loop-i.invariant.1, c.loop-i-test.false, c.requires.0)) c.loop-i.invariant.0
