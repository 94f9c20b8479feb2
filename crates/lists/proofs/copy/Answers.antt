use Rattle.std.proofs.Common.{◌≡◌, ◌-◌, ◌∙◌, arith, length}
use Rattle.lists.specs.Runs.{width}
use Rattle.lists.proofs.Copying.{copied-ended, copying-start, copying-done, copying-next, left_more}
use Rattle.lists.proofs.copy.Goals as goal

pub returns-then-tape-at : goal.returns-then-tape-at
returns-then-tape-at g c = copied-ended c.if-tape-at.true

pub loop-init : goal.loop-init
loop-init g c =
    let e : c.args.n - 0 ≡ c.args.n = omega arith in
    rw e (record { copying = copying-start c.requires.fits c.if-tape-at.false; there = c.requires.there })

pub put-requires-clause-there : goal.put-requires-clause-there
put-requires-clause-there g c =
    let h = left_more (width (g.T.Fixed.widths c.args.entry.now)) c.loop.p (length c.args.s.now) c.loop-test.true c.loop.invariant.there in
    omega (arith, h)

pub put-requires-clause-room : goal.put-requires-clause-room
put-requires-clause-room g c =
    let h = left_more (length (g.T.Fixed.widths c.args.entry.now)) c.loop.t (length c.loop.tape) c.loop-test.true c.loop.invariant.copying.fits in
    omega (arith, h)

pub loop-preserved : goal.loop-preserved
loop-preserved g c =
    let sized = g.met.T.Fixed.sized c.args.entry.now in
    let b = c.BYTES-p.ensures ∙ sized.bytes in
    let there = left_more (width (g.T.Fixed.widths c.args.entry.now)) c.loop.p (length c.args.s.now) c.loop-test.true c.loop.invariant.there in
    record { copying = copying-next c.loop-test.true c.put.ensures b (c.WORDS-t.ensures ∙ sized.words) c.loop.invariant.copying; there = rw b there }

pub returns : goal.returns
returns g c = copying-done (omega arith) c.loop.invariant.copying
