use Rattle.std.proofs.Common.{arith}
use Rattle.alike_names.proofs.Searching.{passing-start, passing-here, passing-text, passing-more}
use Rattle.in_place.proofs.Texts.{text-room}
use Rattle.alike_names.proofs.search.items_without.Goals as goal

pub loop-init : goal.loop-init
loop-init c = passing-start c.requires

pub word_at-len-requires : goal.word_at-len-requires
word_at-len-requires c = omega (arith, (passing-text c.loop.invariant c.loop-test.true).room)

pub overflow_add-p : goal.overflow_add-p
overflow_add-p c = omega (arith, text-room (passing-text c.loop.invariant c.loop-test.true) c.word_at-len.ensures)

pub without-requires : goal.without-requires
without-requires c = omega (arith, text-room (passing-text c.loop.invariant c.loop-test.true) c.word_at-len.ensures)

pub past-p-requires : goal.past-p-requires
past-p-requires c = passing-here c.loop.invariant c.loop-test.true

pub loop-preserved : goal.loop-preserved
loop-preserved c = passing-more c.loop.invariant c.loop-test.true c.word_at-len.ensures c.without.ensures c.if-not-without.false c.past-p.ensures
