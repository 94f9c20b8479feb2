use Rattle.std.proofs.Common.{◌∙◌}
use Rattle.reader.proofs.Leaves.{fetch-short, fetch-there}
use Rattle.reader.proofs.Little.{little_2}
use Rattle.reader.proofs.read_u16.Goals as goal

pub returns-in_err-bytes : goal.returns-in_err-bytes
returns-in_err-bytes c = fetch-short c.fetch.ensures c.in_err-bytes.was c.from_residual.ensures.1

pub returns : goal.returns
returns c = fetch-there c.fetch.ensures c.in_ok-bytes.was (λ l. c.from.ensures ∙ c.from_le_bytes.ensures ∙ little_2 _ l)
