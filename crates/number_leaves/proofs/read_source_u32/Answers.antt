use Rattle.std.proofs.Common.{arith}
use Rattle.number_leaves.proofs.Packing.{Room, room-last, room-before, packing-start, packing-short, packing-over, packing-padded, packing-first, packing-last, packing-more}
use Rattle.number_leaves.proofs.read_source_u32.Goals as goal
use Rattle.number_leaves.proofs.read_source_u32.Goals.{then-i-eq4+else-byte-gt15, else-i-eq4, then-i-ne0+else-byte-eq0, else-i-ne0}

pub loop-i-init : goal.loop-i-init
loop-i-init c = packing-start c.requires

pub returns-in_err-byte : goal.returns-in_err-byte
returns-in_err-byte c = packing-short c.loop-i.invariant c.in_err-byte.was c.from_residual.ensures.1 c.read_u8.ensures

pub returns-then-byte-gt15 : goal.returns-then-byte-gt15
returns-then-byte-gt15 c = packing-over c.loop-i.invariant c.in_ok-byte.was c.read_u8.ensures c.if-i-eq4.true c.if-byte-gt15.true c.refuse.ensures

pub returns-then-byte-eq0 : goal.returns-then-byte-eq0
returns-then-byte-eq0 c =
    let room : Room c.loop-i.i c.in_ok-byte.byte = elim c.if-i-eq4.branch [ then-i-eq4+else-byte-gt15 w ↦ room-last _ _ w.if-i-eq4.true w.if-byte-gt15.false | else-i-eq4 w ↦ room-before _ _ (omega (arith, c.loop-i.invariant.turn)) w.if-i-eq4.false ] in
    packing-padded c.loop-i.invariant c.in_ok-byte.was c.read_u8.ensures room c.if-byte-lt128.true c.if-i-ne0.true c.if-byte-eq0.true c.refuse-then-byte-eq0.ensures

pub returns-then-byte-lt128 : goal.returns-then-byte-lt128
returns-then-byte-lt128 c =
    let room : Room c.loop-i.i c.in_ok-byte.byte = elim c.if-i-eq4.branch [ then-i-eq4+else-byte-gt15 w ↦ room-last _ _ w.if-i-eq4.true w.if-byte-gt15.false | else-i-eq4 w ↦ room-before _ _ (omega (arith, c.loop-i.invariant.turn)) w.if-i-eq4.false ] in
    rw c.from.ensures (elim c.if-i-ne0.branch [ then-i-ne0+else-byte-eq0 w ↦ packing-last c.loop-i.invariant c.in_ok-byte.was c.read_u8.ensures room c.if-byte-lt128.true w.if-byte-eq0.false | else-i-ne0 w ↦ packing-first c.loop-i.invariant c.in_ok-byte.was c.read_u8.ensures room c.if-byte-lt128.true w.if-i-ne0.false ])

pub loop-i-preserved : goal.loop-i-preserved
loop-i-preserved c =
    let room : Room c.loop-i.i c.in_ok-byte.byte = elim c.if-i-eq4.branch [ then-i-eq4+else-byte-gt15 w ↦ room-last _ _ w.if-i-eq4.true w.if-byte-gt15.false | else-i-eq4 w ↦ room-before _ _ (omega (arith, c.loop-i.invariant.turn)) w.if-i-eq4.false ] in
    packing-more c.loop-i.invariant c.in_ok-byte.was c.read_u8.ensures room c.if-byte-lt128.false
