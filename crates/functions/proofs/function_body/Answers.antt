use Rattle.vob24.specs.Grammar.{function_body}
use Rattle.std.proofs.Common.{refl}
use Rattle.vob24.specs.Refusals.{slot_count}
use Rattle.vob24.specs.Questions.{function_wrong}
use Rattle.reader.proofs.Asks.{agree, differ}
use Rattle.reader.proofs.Laws.{field_then, at-step, up-refused, ready_at}
use Rattle.functions.proofs.function_body.Goals as goal

pub returns-in_err-c : goal.returns-in_err-c
unfolding function_body
returns-in_err-c c = field_then c.code-code.ensures λ _. field_then c.transfer_types-captures.ensures λ _. field_then c.slot_types-capture_slot_types.ensures λ _. field_then c.transfer_types-params.ensures λ _. up-refused c.in_err-c.was c.from_residual.ensures.1

pub returns-then-types-locals : goal.returns-then-types-locals
unfolding function_body
returns-then-types-locals c = field_then c.code-code.ensures λ _. field_then c.transfer_types-captures.ensures λ _. field_then c.slot_types-capture_slot_types.ensures λ _. field_then c.transfer_types-params.ensures λ _. at-step c.in_ok-c.was (differ c.args.types c.args.locals (function_wrong slot_count c.args.types c.args.locals) (ready_at c.in_ok-c.was c.transfer_types-params.ensures.ready) c.if-types-locals.true refl)

pub returns : goal.returns
unfolding function_body
returns c = field_then c.code-code.ensures λ _. field_then c.transfer_types-captures.ensures λ _. field_then c.slot_types-capture_slot_types.ensures λ _. field_then c.transfer_types-params.ensures λ _. at-step c.in_ok-c.was (agree c.args.types c.args.locals (function_wrong slot_count c.args.types c.args.locals) (ready_at c.in_ok-c.was c.transfer_types-params.ensures.ready) c.if-types-locals.false)
