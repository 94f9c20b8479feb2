use Rattle.std.proofs.Common.{rules, arith}
use Rattle.debug_info.proofs.Masks.{masked-last, masked-more}
use Rattle.debug_info.proofs.short_number.Goals as goal

pub returns-then-a-lt128 : goal.returns-then-a-lt128
returns-then-a-lt128 c = (search rules, masked-last {m = 0} c.if-a-lt128.true (omega arith))

pub returns-then-b-lt128 : goal.returns-then-b-lt128
returns-then-b-lt128 c = (search rules, masked-more c.if-a-lt128.false c.gathered.ensures (masked-last {m = 1} c.if-b-lt128.true (omega (arith, c.if-b-eq0.false))))

pub returns-then-c-lt128 : goal.returns-then-c-lt128
returns-then-c-lt128 c = (search rules, masked-more c.if-a-lt128.false c.gathered-then-c-lt128-2.ensures (masked-more c.if-b-lt128.false c.gathered-then-c-lt128.ensures (masked-last {m = 1} c.if-c-lt128.true (omega (arith, c.if-c-eq0.false)))))

pub returns-then-d-lt128 : goal.returns-then-d-lt128
returns-then-d-lt128 c = (search rules, masked-more c.if-a-lt128.false c.gathered-then-d-lt128-3.ensures (masked-more c.if-b-lt128.false c.gathered-then-d-lt128-2.ensures (masked-more c.if-c-lt128.false c.gathered-then-d-lt128.ensures (masked-last {m = 1} c.if-d-lt128.true (omega (arith, c.if-d-eq0.false))))))
