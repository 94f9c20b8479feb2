use Rattle.repeat_search.proofs.Hashes.{blocks_start, blocks_more, blocks_end}
use Rattle.repeat_search.proofs.hash_long.Goals as goal

pub loop-i-init : goal.loop-i-init
loop-i-init c = blocks_start c.requires.0 c.second_seed-second.ensures c.requires.1

pub loop-i-preserved : goal.loop-i-preserved
loop-i-preserved c =
    blocks_more c.loop-i.invariant c.loop-i-test.true c.word.ensures c.word-in-loop-i.ensures c.word-in-loop-i-2.ensures c.word-in-loop-i-3.ensures c.fold-lane1.ensures c.fold-lane2.ensures

pub returns : goal.returns
returns c = blocks_end c.loop-i.invariant c.loop-i-test.false c.join.ensures
