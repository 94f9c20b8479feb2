use Rattle.repeat_search.proofs.Hashes.{short_none, short-three, short-words}
use Rattle.repeat_search.proofs.hash_short.Goals as goal

pub returns-then-len-eq0 : goal.returns-then-len-eq0
returns-then-len-eq0 c = short_none _ c.requires.0 c.if-len-eq0.true

pub returns-then-len-lt4 : goal.returns-then-len-lt4
returns-then-len-lt4 c = short-three _ c.requires.0 c.if-len-eq0.false c.if-len-lt4.true c.from.ensures c.from-then-len-lt4.ensures c.from-then-len-lt4-2.ensures c.fold.ensures

pub returns : goal.returns
returns c = short-words _ c.requires.0 c.if-len-lt4.false c.requires.1 c.word.ensures c.word-2.ensures c.fold-2.ensures
