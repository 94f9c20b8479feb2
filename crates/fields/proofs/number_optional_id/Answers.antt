use Rattle.format.specs.Format.{option}
use Rattle.reader.proofs.Keeping.{wordy-absent, wordy-id, fixed-lost, option-absent, option-id}
use Rattle.fields.proofs.number_optional_id.Goals as goal

pub returns-in_err-n : goal.returns-in_err-n
returns-in_err-n c = fixed-lost option c.in_err-n.was c.from_residual.ensures.1 c.read_u32.ensures

pub keep_pair-requires : goal.keep_pair-requires
keep_pair-requires c = wordy-absent c.requires c.in_ok-n.was c.read_u32.ensures

pub returns-then-n-eq0 : goal.returns-then-n-eq0
returns-then-n-eq0 c = option-absent c.requires c.in_ok-n.was c.if-n-eq0.true c.read_u32.ensures c.keep_pair.ensures

pub keep_pair-requires-2 : goal.keep_pair-requires-2
keep_pair-requires-2 c = wordy-id c.requires c.in_ok-n.was c.read_u32.ensures

pub returns : goal.returns
returns c = option-id c.requires c.in_ok-n.was c.if-n-eq0.false c.read_u32.ensures c.keep_pair-2.ensures
