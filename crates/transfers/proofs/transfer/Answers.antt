use Rattle.std.proofs.Common.{arith}
use Rattle.transfers.proofs.Words.{transfer-stands, transfer-ok, transfer-rttid, transfer-meta}
use Rattle.transfers.proofs.transfer.Goals as goal

pub word_at-meta-requires : goal.word_at-meta-requires
word_at-meta-requires c = omega (arith, (transfer-stands c.requires.here.stands).room)

pub overflow_add-p : goal.overflow_add-p
overflow_add-p c = omega (arith, (transfer-stands c.requires.here.stands).room, c.requires.here.small)

pub word_at-rttid-requires : goal.word_at-rttid-requires
word_at-rttid-requires c = omega (arith, (transfer-stands c.requires.here.stands).room)

pub returns-then-not-packed_ok : goal.returns-then-not-packed_ok
returns-then-not-packed_ok c = transfer-meta c.requires.here c.word_at-meta.ensures c.packed_ok.ensures c.args.context c.args.i c.if-not-packed_ok.true c.bad_word.ensures

pub returns-then-not-packed_ok-2 : goal.returns-then-not-packed_ok-2
returns-then-not-packed_ok-2 c = transfer-rttid c.requires.here c.word_at-meta.ensures c.packed_ok.ensures c.if-not-packed_ok.false c.word_at-rttid.ensures c.packed_ok-2.ensures c.args.context c.args.i c.if-not-packed_ok-2.true c.bad_word-then-not-packed_ok-2.ensures

pub returns : goal.returns
returns c = transfer-ok c.requires.here c.word_at-meta.ensures c.packed_ok.ensures c.if-not-packed_ok.false c.word_at-rttid.ensures c.packed_ok-2.ensures c.args.context c.args.i c.if-not-packed_ok-2.false
