use Rattle.std.proofs.Common.{arith}
use Rattle.in_place.proofs.Asking.{asks-up, asking-start, asking-here, asking-not, asking-more, asking-done}
use Rattle.transfers.proofs.Words.{transfer-stands, transfer-past, transfer-turn}
use Rattle.transfers.proofs.transfers.Goals as goal

pub loop-i-init : goal.loop-i-init
loop-i-init c = asking-start c.requires.0

pub transfer-requires : goal.transfer-requires
transfer-requires c = record { here = asking-here c.loop-i-test.true c.loop-i.invariant; low = c.requires.1 }

pub returns-in_err-here : goal.returns-in_err-here
returns-in_err-here c = asks-up c.in_err-here.was c.from_residual.ensures.1 (asking-not c.loop-i-test.true c.loop-i.invariant (transfer-turn c.args.context c.loop-i.i c.args.s.now c.args.from c.loop-i.p c.transfer.ensures) c.in_err-here.was)

pub overflow_add-p : goal.overflow_add-p
overflow_add-p c = omega (arith, (transfer-stands (asking-here c.loop-i-test.true c.loop-i.invariant).stands).room, (asking-here c.loop-i-test.true c.loop-i.invariant).small)

pub loop-i-preserved : goal.loop-i-preserved
loop-i-preserved c = asking-more c.loop-i-test.true c.loop-i.invariant (transfer-turn c.args.context c.loop-i.i c.args.s.now c.args.from c.loop-i.p c.transfer.ensures) c.in_ok-here.was (transfer-past (asking-here c.loop-i-test.true c.loop-i.invariant))

pub returns : goal.returns
returns c = asking-done (omega arith) c.loop-i.invariant
