use Rattle.std.proofs.Common.{refl, rules}
use Rattle.source_lines.proofs.Locations.{least-is, better-taken, better-left}
use Rattle.source_lines.proofs.better.Goals as goal

pub returns-then-least-pc : goal.returns-then-least-pc
returns-then-least-pc c = better-taken _ c.args.i c.args.address c.args.pc (least-is c.args.best (search rules)) c.if-least-pc.true

pub returns : goal.returns
returns c = better-left _ c.args.i c.args.address c.args.pc (least-is c.args.best (search rules)) refl c.if-least-pc.false
