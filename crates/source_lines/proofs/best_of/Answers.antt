use Rattle.source_lines.proofs.Locations.{going-here, going_more, going_done}
use Rattle.source_lines.proofs.best_of.Goals as goal

pub location_at-here-requires : goal.location_at-here-requires
location_at-here-requires c = going-here c.args.address c.loop-i.invariant c.loop-i-test.true

pub loop-i-preserved : goal.loop-i-preserved
loop-i-preserved c = going_more c.args.address c.loop-i.invariant c.loop-i-test.true c.location_at-here.ensures c.better-best.ensures

pub returns : goal.returns
returns c = going_done c.args.address c.loop-i.invariant c.loop-i-test.false
