use Rattle.vob24.specs.Grammar.{metadata}
use Rattle.reader.proofs.Laws.{got-ready}
use Rattle.reader.proofs.Recording.{record_lost, lost_here, recorded_empty}
use Rattle.reader.specs.Recorded.{recorded}
use Rattle.reader.proofs.Parts.{tag-ok}
use Rattle.metadata.proofs.Shapes.{metadata_at, tag-range}
use Rattle.std.proofs.Common.{◌≤◌, ◌≡◌, refl, arith}
use Rattle.metadata.proofs.instruction_metadata.Goals as goal

pub returns-in_err-tag : goal.returns-in_err-tag
unfolding metadata
returns-in_err-tag c = record_lost refl c.from_residual.ensures.1 (lost_here c.in_err-tag.was refl c.number.ensures)

pub returns-in-0 : goal.returns-in-0
returns-in-0 c = metadata_at _ 0 c.in_ok-tag.was c.in-0.is c.number.ensures (recorded (recorded_empty (got-ready c.in_ok-tag.was c.number.ensures) c.bare.ensures))

pub returns-in-1 : goal.returns-in-1
returns-in-1 c = metadata_at _ 1 c.in_ok-tag.was c.in-1.is c.number.ensures c.elem_layout.ensures

pub returns-in-2 : goal.returns-in-2
returns-in-2 c = metadata_at _ 2 c.in_ok-tag.was c.in-2.is c.number.ensures c.map_get.ensures

pub returns-in-3 : goal.returns-in-3
returns-in-3 c = metadata_at _ 3 c.in_ok-tag.was c.in-3.is c.number.ensures c.layouts.ensures

pub returns-in-4 : goal.returns-in-4
returns-in-4 c = metadata_at _ 4 c.in_ok-tag.was c.in-4.is c.number.ensures c.layout.ensures

pub returns-in-5 : goal.returns-in-5
returns-in-5 c = metadata_at _ 5 c.in_ok-tag.was c.in-5.is c.number.ensures c.loop_end.ensures

pub returns-in-9 : goal.returns-in-9
returns-in-9 c = metadata_at _ 9 c.in_ok-tag.was c.in-9.is c.number.ensures c.layout-in-9.ensures

pub returns-in-10 : goal.returns-in-10
returns-in-10 c = metadata_at _ 10 c.in_ok-tag.was c.in-10.is c.number.ensures c.slot_layout.ensures

pub returns-in-11 : goal.returns-in-11
returns-in-11 c = metadata_at _ 11 c.in_ok-tag.was c.in-11.is c.number.ensures c.layouts-in-11.ensures

pub returns-in-12 : goal.returns-in-12
returns-in-12 c = metadata_at _ 12 c.in_ok-tag.was c.in-12.is c.number.ensures c.layouts-in-12.ensures

pub returns-in-13 : goal.returns-in-13
returns-in-13 c = metadata_at _ 13 c.in_ok-tag.was c.in-13.is c.number.ensures c.layout-in-13.ensures

pub returns-in-14 : goal.returns-in-14
returns-in-14 c = metadata_at _ 14 c.in_ok-tag.was c.in-14.is c.number.ensures c.layouts-in-14.ensures

pub returns-in-15 : goal.returns-in-15
returns-in-15 c = metadata_at _ 15 c.in_ok-tag.was c.in-15.is c.number.ensures c.iface_assert_layout.ensures

pub returns-in-16 : goal.returns-in-16
returns-in-16 c = metadata_at _ 16 c.in_ok-tag.was c.in-16.is c.number.ensures c.layouts-in-16.ensures

pub returns-in-17 : goal.returns-in-17
returns-in-17 c = metadata_at _ 17 c.in_ok-tag.was c.in-17.is c.number.ensures c.call_iface_layout.ensures

pub returns-in_default : goal.returns-in_default
returns-in_default c =
    let late : 6 ≤ c.in_ok-tag.tag = omega arith in
    let most = tag-range c.in_ok-tag.tag (tag-ok c.in_ok-tag.was c.number.ensures) late in
    let last : c.in_ok-tag.tag ≡ 18 = omega (arith, most) in
    metadata_at _ 18 c.in_ok-tag.was last c.number.ensures c.select_exec_layout.ensures
