use Rattle.calls.proofs.Laws.{opens_at, read-since, read-refused, read_taken}
use Rattle.std.proofs.Common.{rules}
use Rattle.reader.proofs.Errors.{handed}
use Rattle.vob24.specs.Settings.{settings_of}
use Rattle.pack.proofs.read.Goals as goal

pub read_once-requires : goal.read_once-requires
read_once-requires c = opens_at (search rules) (search rules)

pub returns-then-pack-le-SMALL : goal.returns-then-pack-le-SMALL
unfolding settings_of
returns-then-pack-le-SMALL c = c.read_once.ensures

pub closed_whole-requires-clause-since : goal.closed_whole-requires-clause-since
closed_whole-requires-clause-since c = read-since _ (c.opening_whole-start).ensures c.deserialize-first.ensures

pub returns-in_err-taken : goal.returns-in_err-taken
unfolding settings_of
returns-in_err-taken c = rw (handed c.from_residual.result c.from_residual.ensures.1) (read-refused _ (c.opening_whole-start).ensures c.deserialize-first.ensures (search rules) c.closed_whole.ensures c.in_err-taken.was)

pub returns : goal.returns
unfolding settings_of
returns c = read_taken _ (c.opening_whole-start).ensures c.deserialize-first.ensures (search rules) c.closed_whole.ensures c.in_ok-taken.was c.deserialize.ensures
