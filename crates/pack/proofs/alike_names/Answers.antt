use Rattle.pack.proofs.Laws.{alike-placed, alike-found, alike-refused}
use Rattle.vob24.specs.Settings.{settings_of}
use Rattle.pack.proofs.alike_names.Goals as goal

pub find_alike-requires : goal.find_alike-requires
find_alike-requires c = alike-placed _ c.opening_whole-start.ensures c.deserialize-first.ensures c.ended.ensures c.in_ok-ended.was

pub returns-in_err-ended : goal.returns-in_err-ended
unfolding settings_of
returns-in_err-ended c = alike-refused _ c.opening_whole-start.ensures c.deserialize-first.ensures c.ended.ensures c.in_err-ended.was c.from_residual.ensures.1

pub returns : goal.returns
unfolding settings_of
returns c = alike-found _ c.opening_whole-start.ensures c.deserialize-first.ensures c.ended.ensures c.in_ok-ended.was c.find_alike.ensures
