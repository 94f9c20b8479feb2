use Rattle.vob24.specs.Grammar.{methods as methods_format}
use Rattle.reader.proofs.Laws.{up-refused, ready_at, got-ready}
use Rattle.reader.proofs.Parts.{part_not}
use Rattle.named_types.proofs.Laws.{methods_then, accepted-run, first_run, second_run}
use Rattle.named_types.proofs.methods.Goals as goal

pub returns-in_err-r : goal.returns-in_err-r
returns-in_err-r c = up-refused c.in_err-r.was c.from_residual.ensures.1

pub number_method_count-requires : goal.number_method_count-requires
number_method_count-requires c = ready_at c.in_ok-r.was c.requires.0

pub returns-in_err-n : goal.returns-in_err-n
unfolding methods_format
returns-in_err-n c = part_not c.in_ok-r.was c.in_err-n.was c.from_residual-in_err-n.ensures.1 c.number_method_count.ensures

pub read_methods-run-requires : goal.read_methods-run-requires
read_methods-run-requires c = got-ready c.in_ok-n.was c.number_method_count.ensures

pub returns-then-again : goal.returns-then-again
returns-then-again c = accepted-run _ c.in_ok-r.was c.in_ok-n.was c.number_method_count.ensures c.if-again.true c.requires.1 c.read_methods-run.ensures

pub returns-then-first-run : goal.returns-then-first-run
returns-then-first-run c = methods_then _ c.in_ok-r.was c.in_ok-n.was c.number_method_count.ensures (first_run c.read_methods-run.ensures c.first_repeat-first.ensures c.if-first-run.true)

pub read_methods-requires : goal.read_methods-requires
read_methods-requires c = got-ready c.in_ok-n.was c.number_method_count.ensures

pub returns : goal.returns
returns c = methods_then _ c.in_ok-r.was c.in_ok-n.was c.number_method_count.ensures (second_run c.read_methods-run.ensures c.first_repeat-first.ensures c.if-first-run.false c.read_methods.ensures)
