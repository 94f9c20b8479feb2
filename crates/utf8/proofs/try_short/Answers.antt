use Rattle.std.proofs.Common.{arith, refl, rules, take, drop, eqb-true}
use Rattle.utf8.proofs.Laws.{low-slice}
use Rattle.utf8.proofs.Characters.{tries-if, text-none, text-ends, text-sixteen, text-part}
use Rattle.utf8.proofs.try_short.Goals as goal

pub returns-then-size-gt16 : goal.returns-then-size-gt16
returns-then-size-gt16 c =
    rw c.then_some.ensures
    (tries-if (take c.args.size (drop c.args.start c.args.s.now)) _
    (λ e.
    text-ends (omega arith) (omega arith) (low-slice (omega arith) (omega arith) (c.ascii.ensures (search rules)))
    (low-slice (omega arith) (omega arith) (c.ascii-then-size-gt16.ensures (search rules)))))

pub returns-then-end-lt19 : goal.returns-then-end-lt19
returns-then-end-lt19 c =
    rw c.then_some-then-end-lt19.ensures
    (tries-if (take c.args.size (drop c.args.start c.args.s.now)) _
    (λ e. text-none c.args.s.now c.args.start (eqb-true c.args.size 0 e)))

pub returns-then-low_sixteen : goal.returns-then-low_sixteen
returns-then-low_sixteen c = text-sixteen _ _ (omega arith) (c.low_sixteen.ensures c.if-low_sixteen.true)

pub returns : goal.returns
returns c =
    text-part _ c.characters.ensures (omega arith) (omega arith) (c.if-not-starts.ensures refl)
    (c.if-not-starts-2.ensures refl) c.sixteen.ensures.0 c.sixteen.ensures.1
