use Rattle.std.proofs.Common.{◌*◌, ◌∙◌, arith, ap}
use Rattle.lists.proofs.Items.{run-fits, runs-flat}
use Rattle.lists.proofs.copied_run.Goals as goal

pub nonzero_div-s : goal.nonzero_div-s
nonzero_div-s g c = let sized = g.met.T.Fixed.sized c.args.entry.now in omega (arith, c.BYTES.ensures, sized.some)

pub fitting-k-requires : goal.fitting-k-requires
fitting-k-requires g c = let sized = g.met.T.Fixed.sized c.args.entry.now in omega (arith, c.WORDS.ensures, sized.any)

pub overflow_mul-WORDS : goal.overflow_mul-WORDS
overflow_mul-WORDS g c =
    let sized = g.met.T.Fixed.sized c.args.entry.now in
    let fits = run-fits (g.met.T.Fixed.flat c.args.entry.now) sized c.fitting-k.ensures.0 (rw c.BYTES.ensures at c.fewer-there.ensures.1) in
    rw (c.WORDS-2.ensures ∙ sized.words) (record { fits = omega (arith, fits.1) })

pub remaining-requires : goal.remaining-requires
remaining-requires g c =
    let sized = g.met.T.Fixed.sized c.args.entry.now in
    let fits = run-fits (g.met.T.Fixed.flat c.args.entry.now) sized c.fitting-k.ensures.0 (rw c.BYTES.ensures at c.fewer-there.ensures.1) in
    rw (c.WORDS-2.ensures ∙ sized.words, c.BYTES-2.ensures ∙ sized.bytes) (omega arith, omega (arith, fits.0), omega (arith, fits.1))

pub returns : goal.returns
returns g c =
    let sized = g.met.T.Fixed.sized c.args.entry.now in
    let flat = g.met.T.Fixed.flat c.args.entry.now in
    let fits = run-fits flat sized c.fitting-k.ensures.0 (rw c.BYTES.ensures at c.fewer-there.ensures.1) in
    let b = ap (λ x. x * c.fitting-k.result) (c.BYTES-2.ensures ∙ sized.bytes) in
    let w = ap (λ x. x * c.fitting-k.result) (c.WORDS-2.ensures ∙ sized.words) in
    runs-flat flat c.requires (omega arith) (omega (arith, fits.0)) c.copy.ensures b w c.remaining.ensures
