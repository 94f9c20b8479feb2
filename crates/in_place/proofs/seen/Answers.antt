use Rattle.in_place.proofs.Keys.{looking-here, looking-both, looking-more, looking-found, looking-done}
use Rattle.in_place.proofs.seen.Goals as goal

pub same_key-requires : goal.same_key-requires
same_key-requires c = looking-both c.loop-test.true c.loop.invariant

pub returns-then-same_key : goal.returns-then-same_key
returns-then-same_key c = looking-found c.loop-test.true c.loop.invariant c.same_key.ensures c.if-same_key.true

pub past_item-at-requires : goal.past_item-at-requires
past_item-at-requires c = looking-here c.loop-test.true c.loop.invariant

pub loop-preserved : goal.loop-preserved
loop-preserved c = looking-more c.loop-test.true c.loop.invariant c.same_key.ensures c.if-same_key.false c.past_item-at.ensures

pub returns : goal.returns
returns c = looking-done c.loop-test.false c.loop.invariant
