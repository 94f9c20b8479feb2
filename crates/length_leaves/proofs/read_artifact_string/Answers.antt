use Rattle.length_leaves.proofs.Texts.{text-then, text-not, spans-room}
use Rattle.length_leaves.proofs.read_artifact_string.Goals as goal

pub returns-in_err-span : goal.returns-in_err-span
returns-in_err-span c = text-not c.in_err-span.was c.from_residual.ensures.1 c.read_artifact_bytes.ensures

pub text-requires : goal.text-requires
text-requires c = spans-room c.in_ok-span.was c.read_artifact_bytes.ensures

pub returns : goal.returns
returns c = text-then c.in_ok-span.ensures c.text.ensures
