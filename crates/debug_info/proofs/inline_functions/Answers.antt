use Rattle.std.proofs.Common.{◌≡◌, ◌-◌, arith}
use Rattle.reader.proofs.Laws.{up-refused, got-ready, chained-start, chained-done}
use Rattle.debug_info.proofs.Laws.{function-most, sharing-more, sharing-lost, sharing-many, sharing-rest}
use Rattle.debug_info.proofs.inline_functions.Goals as goal

pub returns-in_err-r : goal.returns-in_err-r
returns-in_err-r c = up-refused c.in_err-r.was c.from_residual.ensures.1

pub returns-in_err-n : goal.returns-in_err-n
returns-in_err-n c = sharing-many _ _ c.in_ok-r.was c.inline_records-all.ensures c.min.ensures c.in_err-n.was c.from_residual-in_err-n.ensures.1 c.number_debug_count.ensures

pub loop-init : goal.loop-init
loop-init c = let e : c.in_ok-n.n - 0 ≡ c.in_ok-n.n = omega arith in rw e (chained-start (got-ready c.in_ok-n.was c.number_debug_count.ensures))

pub returns-in_err-m : goal.returns-in_err-m
returns-in_err-m c =
    sharing-rest _ _ c.in_ok-r.was c.inline_records-all.ensures c.min.ensures c.in_ok-n.was c.number_debug_count.ensures
    (sharing-lost _ c.loop-test.true c.loop.invariant c.inline_function.ensures c.in_err-m.was c.from_residual-in_err-m.ensures.1)

pub overflow_sub-left : goal.overflow_sub-left
overflow_sub-left c = omega (arith, function-most _ c.in_ok-m.was c.inline_function.ensures)

pub loop-preserved : goal.loop-preserved
loop-preserved c = sharing-more _ c.loop-test.true c.loop.invariant c.inline_function.ensures c.in_ok-m.was c.inline_function.auto.tape

pub returns : goal.returns
returns c =
    sharing-rest _ _ c.in_ok-r.was c.inline_records-all.ensures c.min.ensures c.in_ok-n.was c.number_debug_count.ensures
    (chained-done (omega arith) c.loop.invariant)
