use Rattle.in_place.proofs.Walking.{walking_here}
use Rattle.repeat_search.proofs.Marks.{scanning-start, scanning-text, scanning-read}
use Rattle.repeat_search.proofs.all_new.Goals as goal

pub loop-init : goal.loop-init
loop-init c = scanning-start c.requires

pub mark_text-m-requires : goal.mark_text-m-requires
mark_text-m-requires c = scanning-text c.loop.invariant c.loop-test.true

pub past_item-p-requires : goal.past_item-p-requires
past_item-p-requires c = walking_here c.loop-test.true c.loop.invariant.walk

pub loop-preserved : goal.loop-preserved
loop-preserved c =
    scanning-read c.loop.invariant c.loop-test.true c.in_default.not-Alike c.mark_text-m.ensures c.if-marks-m.false c.past_item-p.ensures
