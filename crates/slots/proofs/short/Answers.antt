use Rattle.std.proofs.Common.{arith}
use Rattle.slots.specs.Short.{other}
use Rattle.slots.proofs.Laws.{count-first, one_more, good_of}
use Rattle.slots.proofs.short.Goals as goal

pub returns-then-s-place-lt8 : goal.returns-then-s-place-lt8
returns-then-s-place-lt8 c = other

pub returns-then-first-gt5 : goal.returns-then-first-gt5
returns-then-first-gt5 c = other

pub returns-then-count-eq1 : goal.returns-then-count-eq1
returns-then-count-eq1 c = good_of c.requires c.if-s-place-lt8.false c.le4-count.ensures (λ i. omega (arith, c.shared_slice_known-1.given i)) c.if-count-eq1.true (omega arith) (omega arith) (one_more (omega arith) (omega arith) (omega arith) (omega (arith, c.if-s-place-lt8.false)) c.from.ensures (omega (arith, c.if-first-gt5.false)) c.put-then-count-eq1.ensures (count-first c.put.ensures))

pub returns-then-second-gt5 : goal.returns-then-second-gt5
returns-then-second-gt5 c = other

pub returns-then-count-eq2 : goal.returns-then-count-eq2
returns-then-count-eq2 c = good_of c.requires c.if-s-place-lt8.false c.le4-count.ensures (λ i. omega (arith, c.shared_slice_known-1.given i)) c.if-count-eq2.true (omega arith) (omega arith) (one_more (omega arith) (omega arith) (omega arith) (omega (arith, c.if-s-place-lt8.false)) c.from-then-count-eq2-2.ensures (omega (arith, c.if-second-gt5.false)) c.put-then-count-eq2-3.ensures (one_more (omega arith) (omega arith) (omega arith) (omega (arith, c.if-s-place-lt8.false)) c.from-then-count-eq2.ensures (omega (arith, c.if-first-gt5.false)) c.put-then-count-eq2-2.ensures (count-first c.put-then-count-eq2.ensures)))

pub returns-then-third-gt5 : goal.returns-then-third-gt5
returns-then-third-gt5 c = other

pub returns-then-count-eq3 : goal.returns-then-count-eq3
returns-then-count-eq3 c = good_of c.requires c.if-s-place-lt8.false c.le4-count.ensures (λ i. omega (arith, c.shared_slice_known-1.given i)) c.if-count-eq3.true (omega arith) (omega arith) (one_more (omega arith) (omega arith) (omega arith) (omega (arith, c.if-s-place-lt8.false)) c.from-then-count-eq3-3.ensures (omega (arith, c.if-third-gt5.false)) c.put-then-count-eq3-4.ensures (one_more (omega arith) (omega arith) (omega arith) (omega (arith, c.if-s-place-lt8.false)) c.from-then-count-eq3-2.ensures (omega (arith, c.if-second-gt5.false)) c.put-then-count-eq3-3.ensures (one_more (omega arith) (omega arith) (omega arith) (omega (arith, c.if-s-place-lt8.false)) c.from-then-count-eq3.ensures (omega (arith, c.if-first-gt5.false)) c.put-then-count-eq3-2.ensures (count-first c.put-then-count-eq3.ensures))))

pub returns-then-fourth-gt5 : goal.returns-then-fourth-gt5
returns-then-fourth-gt5 c = other

pub returns-then-count-eq4 : goal.returns-then-count-eq4
returns-then-count-eq4 c = good_of c.requires c.if-s-place-lt8.false c.le4-count.ensures (λ i. omega (arith, c.shared_slice_known-1.given i)) c.if-count-eq4.true (omega arith) (omega arith) (one_more (omega arith) (omega arith) (omega arith) (omega (arith, c.if-s-place-lt8.false)) c.from-then-count-eq4-4.ensures (omega (arith, c.if-fourth-gt5.false)) c.put-then-count-eq4-5.ensures (one_more (omega arith) (omega arith) (omega arith) (omega (arith, c.if-s-place-lt8.false)) c.from-then-count-eq4-3.ensures (omega (arith, c.if-third-gt5.false)) c.put-then-count-eq4-4.ensures (one_more (omega arith) (omega arith) (omega arith) (omega (arith, c.if-s-place-lt8.false)) c.from-then-count-eq4-2.ensures (omega (arith, c.if-second-gt5.false)) c.put-then-count-eq4-3.ensures (one_more (omega arith) (omega arith) (omega arith) (omega (arith, c.if-s-place-lt8.false)) c.from-then-count-eq4.ensures (omega (arith, c.if-first-gt5.false)) c.put-then-count-eq4-2.ensures (count-first c.put-then-count-eq4.ensures)))))

pub returns : goal.returns
returns c = other
