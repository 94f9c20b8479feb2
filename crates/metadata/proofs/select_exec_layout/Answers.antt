use Rattle.std.proofs.Common.{refl}
use Rattle.reader.proofs.Recording.{record_lost, lost_last}
use Rattle.metadata.proofs.Shapes.{one_layout}
use Rattle.metadata.proofs.select_exec_layout.Goals as goal

pub returns-in_err-n : goal.returns-in_err-n
returns-in_err-n c = record_lost refl c.from_residual.ensures.1 (lost_last c.in_err-n.was refl c.number_select_cases.ensures)

pub returns : goal.returns
returns c = one_layout c.in_ok-n.was c.number_select_cases.ensures c.list_at.ensures
