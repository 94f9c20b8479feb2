use Rattle.format.specs.Format.{long}
use Rattle.reader.proofs.Keeping.{wordy8, fixed-lost, long_kept}
use Rattle.fields.proofs.number_u64.Goals as goal

pub returns-in_err-n : goal.returns-in_err-n
returns-in_err-n c = fixed-lost long c.in_err-n.was c.from_residual.ensures.1 c.read_u64.ensures

pub keep_long-requires : goal.keep_long-requires
keep_long-requires c = wordy8 c.requires c.in_ok-n.was c.read_u64.ensures

pub returns : goal.returns
returns c = long_kept c.requires c.in_ok-n.was c.read_u64.ensures c.keep_long.ensures
