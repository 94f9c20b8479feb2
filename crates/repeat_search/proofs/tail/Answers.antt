use Rattle.repeat_search.proofs.Tails.{tail-few, tail-ascii, tail-other}
use Rattle.repeat_search.proofs.tail.Goals as goal

pub returns-then-n-lt4 : goal.returns-then-n-lt4
returns-then-n-lt4 c = tail-few c.requires c.word_at-n.ensures c.if-n-lt4.true

pub returns-then-ascii : goal.returns-then-ascii
returns-then-ascii c =
    tail-ascii c.requires c.word_at-n.ensures c.if-n-lt4.false c.ascii.ensures c.if-ascii.true c.word.ensures

pub returns-else-ascii : goal.returns-else-ascii
returns-else-ascii c = tail-other c.requires c.word_at-n.ensures c.if-n-lt4.false c.ascii.ensures c.if-ascii.false
