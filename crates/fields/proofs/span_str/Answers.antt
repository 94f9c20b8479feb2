use Rattle.reader.proofs.Keeping.{text-spans, text-span-lost, two-string}
use Rattle.fields.proofs.Keeps.{part-wordy, part-kept}
use Rattle.fields.proofs.span_str.Goals as goal

pub returns-in_err-text : goal.returns-in_err-text
returns-in_err-text c = text-span-lost c.in_err-text.was c.read_string.ensures c.from_residual.ensures.1

pub kept_span-requires : goal.kept_span-requires
kept_span-requires c = part-wordy c.requires (text-spans c.in_ok-text.was c.read_string.ensures)

pub returns : goal.returns
returns c = part-kept c.requires two-string (text-spans c.in_ok-text.was c.read_string.ensures) c.kept_span.ensures
