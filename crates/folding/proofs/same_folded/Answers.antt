use Rattle.folding.proofs.Folded.{comparing-end, comparing-short, comparing-other, comparing-more}
use Rattle.folding.proofs.same_folded.Goals as goal

pub returns-in_default-next : goal.returns-in_default-next
returns-in_default-next c = comparing-short c.loop-x.invariant c.in-Some.ensures c.in_default-next.ensures

pub returns-then-x-y : goal.returns-then-x-y
returns-then-x-y c = comparing-other c.loop-x.invariant c.in-Some.ensures c.in-Some-next.ensures c.if-x-y.true

pub loop-x-preserved : goal.loop-x-preserved
loop-x-preserved c =
    rw (c.past-left.ensures, c.past-right.ensures) (comparing-more c.loop-x.invariant c.in-Some.ensures c.in-Some-next.ensures c.if-x-y.false c.same_run-run.ensures)

pub returns : goal.returns
returns c = comparing-end c.loop-x.invariant _ _ c.in_default.ensures c.next-2.ensures c.is_none.ensures
