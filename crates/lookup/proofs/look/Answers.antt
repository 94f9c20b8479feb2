use Rattle.std.proofs.Common.{arith}
use Rattle.lookup.proofs.Laws.{looking-here, looking-room, looking-found, looking-on, looking-done}
use Rattle.lookup.proofs.look.Goals as goal

pub word_at-named-requires : goal.word_at-named-requires
word_at-named-requires c = omega (arith, (looking-here c.loop.invariant c.loop-test.true).room)

pub overflow_add-payload : goal.overflow_add-payload
overflow_add-payload c = omega (arith, c.word_at-named.ensures.is, (looking-here c.loop.invariant c.loop-test.true).room, c.loop.invariant.items.small)

pub overflow_add-payload-in-loop : goal.overflow_add-payload-in-loop
overflow_add-payload-in-loop c = omega (arith, c.word_at-named.ensures.is, (looking-here c.loop.invariant c.loop-test.true).room, c.loop.invariant.items.small)

pub overflow_add-payload-in-loop-2 : goal.overflow_add-payload-in-loop-2
overflow_add-payload-in-loop-2 c = omega (arith, c.word_at-named.ensures.is, (looking-here c.loop.invariant c.loop-test.true).room, c.loop.invariant.items.small)

pub word_at-length-requires : goal.word_at-length-requires
word_at-length-requires c = omega (arith, c.word_at-named.ensures.is, (looking-here c.loop.invariant c.loop-test.true).room)

pub overflow_add-start : goal.overflow_add-start
overflow_add-start c = omega (arith, looking-room c.loop.invariant c.loop-test.true c.word_at-named.ensures c.word_at-length.ensures)

pub overflow_add-at : goal.overflow_add-at
overflow_add-at c = omega (arith, looking-room c.loop.invariant c.loop-test.true c.word_at-named.ensures c.word_at-length.ensures)

pub is_name-requires : goal.is_name-requires
is_name-requires c = omega (arith, looking-room c.loop.invariant c.loop-test.true c.word_at-named.ensures c.word_at-length.ensures)

pub returns-then-is_name : goal.returns-then-is_name
returns-then-is_name c = looking-found c.loop.invariant c.loop-test.true c.word_at-named.ensures c.word_at-length.ensures c.is_name.ensures c.if-is_name.true

pub overflow_add-at-in-loop : goal.overflow_add-at-in-loop
overflow_add-at-in-loop c = omega (arith, looking-room c.loop.invariant c.loop-test.true c.word_at-named.ensures c.word_at-length.ensures)

pub loop-preserved : goal.loop-preserved
loop-preserved c = looking-on c.loop.invariant c.loop-test.true c.word_at-named.ensures c.word_at-length.ensures c.is_name.ensures c.if-is_name.false

pub returns : goal.returns
returns c = looking-done c.loop.invariant c.loop-test.false
