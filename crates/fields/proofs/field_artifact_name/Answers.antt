use Rattle.reader.proofs.Laws.{up-refused, at-step, ready_at}
use Rattle.reader.proofs.Keeping.{text-spans, text-lost, two-string}
use Rattle.fields.proofs.Keeps.{part-wordy, part-kept, part-just, part-lost}
use Rattle.fields.proofs.field_artifact_name.Goals as goal

pub returns-in_err-r : goal.returns-in_err-r
returns-in_err-r c = up-refused c.in_err-r.was c.from_residual.ensures.1

pub read_artifact_string-requires : goal.read_artifact_string-requires
read_artifact_string-requires c = ready_at c.in_ok-r.was c.requires

pub returns-in_err-text : goal.returns-in_err-text
returns-in_err-text c = at-step c.in_ok-r.was (text-lost c.in_err-text.was (rw c.artifact_name_bytes-most.ensures at c.read_artifact_string.ensures) c.from_residual-in_err-text.ensures.1)

pub kept_span-requires : goal.kept_span-requires
kept_span-requires c = part-wordy (ready_at c.in_ok-r.was c.requires) (text-spans c.in_ok-text.was c.read_artifact_string.ensures)

pub returns-in_err-e : goal.returns-in_err-e
returns-in_err-e c =
    let h = rw c.artifact_name_bytes-most.ensures at c.read_artifact_string.ensures in
    let k = part-kept (ready_at c.in_ok-r.was c.requires) two-string (text-spans c.in_ok-text.was h) c.kept_span.ensures in
    at-step c.in_ok-r.was (part-lost c.in_err-e.was c.from_residual-in_err-e.ensures.1 k)

pub returns : goal.returns
returns c =
    let h = rw c.artifact_name_bytes-most.ensures at c.read_artifact_string.ensures in
    let k = part-kept (ready_at c.in_ok-r.was c.requires) two-string (text-spans c.in_ok-text.was h) c.kept_span.ensures in
    at-step c.in_ok-r.was (part-just c.in_ok-e.was k)
