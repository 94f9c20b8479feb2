use Rattle.source_lines.proofs.Skips.{ending-is}
use Rattle.source_lines.proofs.packed.ends.Goals as goal

pub returns : goal.returns
returns c = ending-is c.args.b c.from.ensures
