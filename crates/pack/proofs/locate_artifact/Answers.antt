use Rattle.pack.proofs.Laws.{locate-whole, locate-found, locate-refused}
use Rattle.vob24.specs.Settings.{settings_of}
use Rattle.pack.proofs.locate_artifact.Goals as goal

pub located-requires : goal.located-requires
located-requires c = locate-whole _ c.opening_whole-start.ensures c.deserialize-first.ensures c.ended.ensures c.in_ok-end.was

pub returns-in_err-end : goal.returns-in_err-end
unfolding settings_of
returns-in_err-end c = locate-refused _ c.opening_whole-start.ensures c.deserialize-first.ensures c.ended.ensures c.in_err-end.was c.from_residual.ensures.1

pub returns : goal.returns
unfolding settings_of
returns c = locate-found _ c.opening_whole-start.ensures c.deserialize-first.ensures c.ended.ensures c.in_ok-end.was c.located.ensures
