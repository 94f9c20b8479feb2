use Rattle.reader.proofs.Laws.{up-refused, at-step, ready_at}
use Rattle.reader.proofs.Keeping.{two-payload}
use Rattle.fields.proofs.Keeps.{part-wordy, part-kept, part-just, part-lost}
use Rattle.fields.proofs.field_artifact_payload.Goals as goal

pub returns-in_err-r : goal.returns-in_err-r
returns-in_err-r c = up-refused c.in_err-r.was c.from_residual.ensures.1

pub read_artifact_bytes-payload-requires : goal.read_artifact_bytes-payload-requires
read_artifact_bytes-payload-requires c = ready_at c.in_ok-r.was c.requires

pub kept_span-requires : goal.kept_span-requires
kept_span-requires c = part-wordy (ready_at c.in_ok-r.was c.requires) c.read_artifact_bytes-payload.ensures

pub returns-in_err-d : goal.returns-in_err-d
returns-in_err-d c =
    let h = rw c.artifact_payload_bytes-most.ensures at c.read_artifact_bytes-payload.ensures in
    let k = part-kept (ready_at c.in_ok-r.was c.requires) two-payload h c.kept_span.ensures in
    at-step c.in_ok-r.was (part-lost c.in_err-d.was c.from_residual-in_err-d.ensures.1 k)

pub returns : goal.returns
returns c =
    let h = rw c.artifact_payload_bytes-most.ensures at c.read_artifact_bytes-payload.ensures in
    let k = part-kept (ready_at c.in_ok-r.was c.requires) two-payload h c.kept_span.ensures in
    at-step c.in_ok-r.was (part-just c.in_ok-d.was k)
