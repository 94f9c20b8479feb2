use Rattle.vob24.specs.Grammar.{metadata}
use Rattle.reader.proofs.Laws.{up-refused, at-step}
use Rattle.reader.proofs.Parts.{part_not}
use Rattle.reader.proofs.Recording.{record_just, record_not}
use Rattle.metadata.proofs.Tags.{none_next, call_next}
use Rattle.metadata.proofs.InstructionMetadataEntry.read.Goals as goal

pub returns-in_err-c : goal.returns-in_err-c
returns-in_err-c c = up-refused c.in_err-c.was c.from_residual.ensures.1

pub returns-in_err-d : goal.returns-in_err-d
unfolding metadata
returns-in_err-d c = part_not c.in_ok-c.was c.in_err-d.was c.from_residual-in_err-d.ensures.1 c.number.ensures

pub returns-then-is_tag : goal.returns-then-is_tag
returns-then-is_tag c = at-step c.in_ok-c.was (none_next _ c.in_ok-d.was c.number.ensures (c.is_tag.ensures c.if-is_tag.true))

pub returns-in_err-d-2 : goal.returns-in_err-d-2
unfolding metadata
returns-in_err-d-2 c = part_not c.in_ok-c.was c.in_err-d-2.was c.from_residual-in_err-d-2.ensures.1 c.number-then-is_tag-2.ensures

pub returns-then-is_tag-2 : goal.returns-then-is_tag-2
returns-then-is_tag-2 c = at-step c.in_ok-c.was (call_next _ c.in_ok-d-2.was c.number-then-is_tag-2.ensures (c.is_tag-2.ensures c.if-is_tag-2.true) c.two_layouts.ensures)

pub returns-in_err-d-3 : goal.returns-in_err-d-3
returns-in_err-d-3 c = at-step c.in_ok-c.was (record_not c.in_err-d-3.was c.from_residual-in_err-d-3.ensures.1 c.instruction_metadata.ensures)

pub returns : goal.returns
returns c = at-step c.in_ok-c.was (record_just c.in_ok-d-3.was c.instruction_metadata.ensures)
