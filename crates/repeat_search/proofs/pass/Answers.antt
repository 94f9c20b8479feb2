use Rattle.in_place.proofs.Walking.{walking_here}
use Rattle.repeat_search.proofs.Tables.{walking-stands}
use Rattle.repeat_search.proofs.Filters.{passing-start, passing-more}
use Rattle.repeat_search.proofs.pass.Goals as goal

pub loop-i-init : goal.loop-i-init
loop-i-init c = passing-start c.requires.0 c.requires.1

pub probed-requires : goal.probed-requires
probed-requires c =
    (walking-stands c.loop-i-test.true c.loop-i.invariant.walk, c.loop-i.invariant.filter, c.requires.2)

pub past_item-p-requires : goal.past_item-p-requires
past_item-p-requires c = walking_here c.loop-i-test.true c.loop-i.invariant.walk

pub loop-i-preserved : goal.loop-i-preserved
loop-i-preserved c =
    passing-more c.loop-i.invariant c.loop-i-test.true (rw c.if-branch.false at c.in_ok-probed.ensures) c.past_item-p.ensures
