use Rattle.utf8.proofs.Laws.{going-reached, going_done}
use Rattle.utf8.proofs.scan.Goals as goal

pub loop-at-preserved : goal.loop-at-preserved
loop-at-preserved c = going-reached c.in_ok-at.ensures c.loop-at.invariant

pub returns : goal.returns
returns c = going_done c.loop-at-test.false c.loop-at.invariant
