use Rattle.in_place.proofs.Walking.{walking_here}
use Rattle.repeat_search.proofs.Marks.{scanning-start, scanning-text, scanning-asks, scanning-more}
use Rattle.repeat_search.proofs.scan.Goals as goal

pub loop-i-init : goal.loop-i-init
loop-i-init c = scanning-start c.requires

pub mark-m-requires : goal.mark-m-requires
mark-m-requires c = scanning-text c.loop-i.invariant c.loop-i-test.true

pub repeats_one-requires : goal.repeats_one-requires
repeats_one-requires c = scanning-asks c.loop-i.invariant c.loop-i-test.true c.mark-m.ensures

pub past_item-p-requires : goal.past_item-p-requires
past_item-p-requires c = walking_here c.loop-i-test.true c.loop-i.invariant.walk

pub loop-i-preserved : goal.loop-i-preserved
loop-i-preserved c =
    scanning-more c.loop-i.invariant c.loop-i-test.true c.repeats_one.ensures c.if-repeats_one.false c.mark-m.ensures c.past_item-p.ensures
