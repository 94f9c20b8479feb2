use Rattle.std.proofs.Common.{rules, ◌∙◌}
use Rattle.reader.proofs.Little.{little_4}
use Rattle.reader.proofs.le4.Goals as goal

pub returns : goal.returns
returns c = c.from_le_bytes.ensures ∙ little_4 c.args.b (search rules)
