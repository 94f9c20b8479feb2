use Rattle.in_place.proofs.Walking.{walking_here}
use Rattle.repeat_search.proofs.Filters.{suspecting-start, suspecting-text, suspecting-more}
use Rattle.repeat_search.proofs.suspect.Goals as goal

pub loop-init : goal.loop-init
loop-init c = suspecting-start c.requires.0 c.requires.1 c.requires.2

pub hash_key-h-requires : goal.hash_key-h-requires
hash_key-h-requires c = walking_here c.loop-test.true c.loop.invariant.walk

pub note-requires : goal.note-requires
note-requires c =
    (suspecting-text c.loop.invariant c.loop-test.true, c.loop.invariant.filter.size, c.loop.invariant.width)

pub past_item-p-requires : goal.past_item-p-requires
past_item-p-requires c = walking_here c.loop-test.true c.loop.invariant.walk

pub loop-preserved : goal.loop-preserved
loop-preserved c =
    suspecting-more c.loop.invariant c.loop-test.true c.hash_key-h.ensures c.note.ensures c.past_item-p.ensures
