use Rattle.vob24.specs.Settings.{settings_of}
use Rattle.vob24.specs.Grammar.{section}
use Rattle.reader.proofs.Laws.{field_then, at-step, up-refused, ready_at}
use Rattle.deserialize.proofs.Laws.{no-artifacts}
use Rattle.deserialize.proofs.artifacts_on.Goals as goal

pub returns-in_err-c : goal.returns-in_err-c
returns-in_err-c c = up-refused c.in_err-c.was c.from_residual.ensures.1

pub returns-then-empty_at : goal.returns-then-empty_at
returns-then-empty_at c = at-step c.in_ok-c.was (no-artifacts (settings_of c.args.set.now) (ready_at c.in_ok-c.was c.requires) (c.empty_at.ensures c.if-empty_at.true) c.past_empty.ensures c.args.functions)

pub returns : goal.returns
unfolding section
returns c = field_then c.artifacts-r1.ensures (λ _. field_then c.files-r2.ensures (λ _. field_then c.function_locations-r3.ensures (λ _. c.inline_sources.ensures)))
