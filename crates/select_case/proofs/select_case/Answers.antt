use Rattle.std.proofs.Common.{refl}
use Rattle.reader.proofs.Recording.{record_lost, lost_here}
use Rattle.vob24.specs.Grammar.{select_case}
use Rattle.select_case.proofs.Laws.{select_at, select-one}
use Rattle.select_case.proofs.select_case.Goals as goal

pub returns-in_err-tag : goal.returns-in_err-tag
unfolding select_case
returns-in_err-tag c = record_lost refl c.from_residual.ensures.1 (lost_here c.in_err-tag.was refl c.number.ensures)

pub returns-then-tag-eq0 : goal.returns-then-tag-eq0
returns-then-tag-eq0 c = select_at 0 c.in_ok-tag.was c.if-tag-eq0.true c.number.ensures c.send.ensures

pub returns : goal.returns
returns c = select_at 1 c.in_ok-tag.was (select-one c.in_ok-tag.was c.if-tag-eq0.false c.number.ensures) c.number.ensures c.recv.ensures
