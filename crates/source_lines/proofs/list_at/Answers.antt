use Rattle.std.proofs.Common.{arith}
use Rattle.in_place.proofs.Walking.{walking_start, walking_here, walking-next}
use Rattle.source_lines.proofs.Locations.{list-told}
use Rattle.source_lines.proofs.list_at.Goals as goal

pub loop-init : goal.loop-init
loop-init c = walking_start c.requires.0

pub past_list-p-requires : goal.past_list-p-requires
past_list-p-requires c = walking_here (omega (arith, c.loop-test.true, c.requires.1)) c.loop.invariant

pub loop-preserved : goal.loop-preserved
loop-preserved c = walking-next (omega (arith, c.loop-test.true, c.requires.1)) c.loop.invariant c.past_list-p.ensures

pub returns : goal.returns
returns c = list-told c.requires.1 (omega arith) c.loop.invariant
