use Rattle.alike_names.proofs.Searching.{partner-start, partner-here, partner-both, partner-more, partner-done}
use Rattle.alike_names.proofs.search.partner.Goals as goal

pub loop-init : goal.loop-init
loop-init c = partner-start c.requires

pub nearer-best-requires : goal.nearer-best-requires
nearer-best-requires c = partner-both c.loop.invariant c.loop-test.true

pub past-at-requires : goal.past-at-requires
past-at-requires c = partner-here c.loop.invariant c.loop-test.true

pub loop-preserved : goal.loop-preserved
loop-preserved c = partner-more c.loop.invariant c.loop-test.true c.nearer-best.ensures c.past-at.ensures

pub returns : goal.returns
returns c = partner-done c.loop.invariant c.loop-test.false c.loop.auto.counter-end
