use Rattle.calls.proofs.Laws.{read-since, read-room, small-refused, small-taken, small-again}
use Rattle.std.proofs.Common.{rules}
use Rattle.reader.proofs.Errors.{handed}
use Rattle.pack.proofs.read_once.Goals as goal

pub closed_whole-requires-clause-since : goal.closed_whole-requires-clause-since
closed_whole-requires-clause-since c = read-since _ (c.requires) c.deserialize-first.ensures

pub returns-in_err-taken : goal.returns-in_err-taken
returns-in_err-taken c = rw (handed c.from_residual.result c.from_residual.ensures.1) (small-refused _ (c.requires) c.deserialize-first.ensures c.closed_whole.ensures c.in_err-taken.was)

pub copy_record-requires : goal.copy_record-requires
copy_record-requires c = (search rules, read-room _ (c.requires) c.deserialize-first.ensures c.closed_whole.ensures c.in_ok-taken.was)

pub returns-then-taken-le-OWN : goal.returns-then-taken-le-OWN
returns-then-taken-le-OWN c = small-taken _ (c.requires) c.deserialize-first.ensures c.closed_whole.ensures (search rules) c.in_ok-taken.was c.copy_record.ensures

pub returns : goal.returns
returns c = small-again _ (c.requires) c.deserialize-first.ensures c.closed_whole.ensures c.in_ok-taken.was c.deserialize.ensures
