use Rattle.std.proofs.Common.{arith}
use Rattle.unique_names.proofs.Counting.{counting-item, counting-name, counting-blank, counting-named, counting-done}
use Rattle.unique_names.proofs.named.Goals as goal
use Rattle.unique_names.proofs.named.Goals.{then-not-blank, else-not-blank}

pub blank-requires : goal.blank-requires
blank-requires c = counting-name c.loop-test.true c.loop.invariant.0

pub word_at-requires : goal.word_at-requires
word_at-requires c = omega (arith, (counting-name c.loop-test.true c.loop.invariant.0).room)

pub past-at-requires : goal.past-at-requires
past-at-requires c = counting-item c.loop-test.true c.loop.invariant.0

pub loop-preserved : goal.loop-preserved
loop-preserved c =
    elim c.if-not-blank.branch [
      | then-not-blank w ↦ rw (w.names-is, w.bytes-is) (counting-named c.loop-test.true c.loop.invariant.0 w.if-not-blank.true c.blank.ensures w.word_at.ensures c.past-at.ensures, c.requires.1)
      | else-not-blank w ↦ rw (w.names-is, w.bytes-is) (counting-blank c.loop-test.true c.loop.invariant.0 w.if-not-blank.false c.blank.ensures c.past-at.ensures, c.requires.1)
    ]

pub returns : goal.returns
returns c = counting-done (omega arith) c.loop.invariant.0
