use Rattle.std.proofs.lemmas.Bool.{lt-leb, le-leb}
use Rattle.reader.proofs.Leaves.{payload-short, payload-no, payload-then, past-ready}
use Rattle.length_leaves.proofs.read_artifact_bytes.Goals as goal

pub returns-in_err-n : goal.returns-in_err-n
returns-in_err-n c = payload-short c.in_err-n.was c.from_residual.ensures.1 c.read_u32.ensures

pub returns-then-most-n : goal.returns-then-most-n
returns-then-most-n c = payload-no c.in_ok-n.was c.read_u32.ensures (lt-leb _ _ c.if-most-n.true) c.over.ensures

pub bytes-requires : goal.bytes-requires
bytes-requires c = past-ready c.requires c.in_ok-n.was c.read_u32.ensures

pub returns : goal.returns
returns c = payload-then c.in_ok-n.was c.read_u32.ensures (le-leb _ _ c.if-most-n.false) c.bytes.ensures
