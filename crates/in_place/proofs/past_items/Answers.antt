use Rattle.in_place.proofs.Walking.{leaving-items, leaving-here, leaving-more, leaving-done}
use Rattle.in_place.proofs.past_items.Goals as goal

pub loop-init : goal.loop-init
loop-init c = leaving-items c.requires

pub past-p-requires : goal.past-p-requires
past-p-requires c = leaving-here c.loop.invariant c.loop-test.true

pub loop-preserved : goal.loop-preserved
loop-preserved c = leaving-more c.loop.invariant c.loop-test.true c.past-p.ensures

pub returns : goal.returns
returns c = record { is = leaving-done c.loop.invariant c.loop-test.false }
