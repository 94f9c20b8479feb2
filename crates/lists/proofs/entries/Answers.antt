use Rattle.std.proofs.Common.{arith}
use Rattle.reader.proofs.Laws.{up-refused, at-step, ready_at, comes_then, turns-start, turns-done}
use Rattle.lists.proofs.Listed.{turns_next, turns-up, turns-accepted}
use Rattle.reader.proofs.Accepting.{accepted-at, accepted-part}
use Rattle.lists.proofs.entries.Goals as goal

pub returns-in_err-r : goal.returns-in_err-r
returns-in_err-r g c = up-refused c.in_err-r.was c.from_residual.ensures.1

pub run-rest-requires : goal.run-rest-requires
run-rest-requires g c = ready_at c.in_ok-r.was c.requires.ready

pub loop-k-init : goal.loop-k-init
loop-k-init g c = turns-start c.run-rest.ensures.ready

pub read-requires-clause-ready : goal.read-requires-clause-ready
read-requires-clause-ready g c = c.loop-k.invariant.ready

pub read-requires-clause-accepted : goal.read-requires-clause-accepted
read-requires-clause-accepted g c =
    let rest = accepted-part (λ x k. comes_then c.run-rest.ensures k) (accepted-at c.in_ok-r.was c.requires.accepted) in
    turns-accepted c.loop-k-test.true c.loop-k.invariant rest

pub returns-in_err-here : goal.returns-in_err-here
returns-in_err-here g c = at-step c.in_ok-r.was (comes_then c.run-rest.ensures (turns-up c.loop-k-test.true c.loop-k.invariant c.in_err-here.was c.from_residual-in_err-here.ensures.1 c.read.ensures))

pub loop-k-preserved : goal.loop-k-preserved
loop-k-preserved g c = turns_next c.loop-k-test.true c.loop-k.invariant c.in_ok-here.was c.read.ensures c.read.auto.tape

pub returns : goal.returns
returns g c = at-step c.in_ok-r.was (comes_then c.run-rest.ensures (turns-done (omega (arith, c.loop-k-test.false)) c.loop-k.invariant))
