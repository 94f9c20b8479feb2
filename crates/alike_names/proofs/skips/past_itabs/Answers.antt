use Rattle.std.proofs.Common.{arith}
use Rattle.in_place.proofs.Walking.{leaving-here, leaving-more, leaving-done}
use Rattle.alike_names.proofs.Lists.{leaving-list}
use Rattle.alike_names.proofs.Skipping.{itabs-list, itab-words, itab-past}
use Rattle.alike_names.proofs.skips.past_itabs.Goals as goal

pub word_at-n-requires : goal.word_at-n-requires
word_at-n-requires c = (itabs-list _ c.requires).room

pub overflow_add-at : goal.overflow_add-at
overflow_add-at c = omega (arith, (itabs-list _ c.requires).room, c.requires.small)

pub loop-init : goal.loop-init
loop-init c = leaving-list c.requires (itabs-list _ c.requires) c.word_at-n.ensures

pub overflow_add-at-in-loop : goal.overflow_add-at-in-loop
overflow_add-at-in-loop c = omega (arith, (itab-words _ (leaving-here c.loop.invariant c.loop-test.true)).room, c.requires.small)

pub past_words-at-requires : goal.past_words-at-requires
past_words-at-requires c = itab-words _ (leaving-here c.loop.invariant c.loop-test.true)

pub loop-preserved : goal.loop-preserved
loop-preserved c = leaving-more c.loop.invariant c.loop-test.true (itab-past _ (leaving-here c.loop.invariant c.loop-test.true) c.past_words-at.ensures)

pub returns : goal.returns
returns c = record { is = leaving-done c.loop.invariant c.loop-test.false }
