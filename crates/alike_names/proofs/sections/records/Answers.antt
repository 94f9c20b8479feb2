use Rattle.std.proofs.Common.{arith}
use Rattle.in_place.proofs.Lists.{list-stands}
use Rattle.alike_names.proofs.Pairs.{walked_start, walked_here, walked-found, walked_more, walked-done}
use Rattle.alike_names.proofs.sections.records.Goals as goal

pub word_at-n-requires : goal.word_at-n-requires
word_at-n-requires g c = (list-stands c.requires.stands).room

pub overflow_add-at : goal.overflow_add-at
overflow_add-at g c = omega (arith, (list-stands c.requires.stands).room, c.requires.small)

pub loop-init : goal.loop-init
loop-init g c = walked_start c.requires (list-stands c.requires.stands) c.word_at-n.ensures

pub walk-requires : goal.walk-requires
walk-requires g c = walked_here c.loop-test.true c.loop.invariant

pub returns-in_err-at : goal.returns-in_err-at
returns-in_err-at g c = rw c.from_residual.ensures (walked-found c.loop-test.true c.loop.invariant c.walk.ensures c.in_err-at.was)

pub loop-preserved : goal.loop-preserved
loop-preserved g c = walked_more c.loop-test.true c.loop.invariant c.walk.ensures c.in_ok-at.was

pub returns : goal.returns
returns g c = walked-done c.loop-test.false c.loop.invariant
