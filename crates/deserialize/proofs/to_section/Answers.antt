use Rattle.std.proofs.Common.{arith, rules}
use Rattle.deserialize.proofs.Laws.{along-start, along-accepted, along-more, opened-accepted, along-reaches}
use Rattle.deserialize.proofs.to_section.Goals as goal

pub loop-i-init : goal.loop-i-init
loop-i-init c = (along-start (opened-accepted _ c.field_magic-r1.ensures c.field_version-here.ensures c.requires.1) c.field_version-here.ensures.ready, search rules)

pub section-here-requires : goal.section-here-requires
section-here-requires c = (c.loop-i.invariant.0.ready, along-accepted c.section_at-x.result (omega arith) c.loop-i.invariant.0 c.section_at-x.ensures)

pub loop-i-preserved : goal.loop-i-preserved
loop-i-preserved c = (along-more c.section_at-x.result (omega arith) c.loop-i.invariant.0 c.section_at-x.ensures c.section-here.ensures, search rules)

pub returns : goal.returns
returns c = along-reaches _ c.field_magic-r1.ensures c.field_version-here.ensures (omega (arith, c.loop-i-test.false, c.section_number-i-end.ensures.0)) c.loop-i.invariant.0
