use Rattle.std.proofs.Common.{◌/◌, ◌%◌, arith}
use Rattle.std.proofs.lemmas.Nat.{xor_lt}
use Rattle.repeat_search.proofs.Hashes.{halves-fit}
use Rattle.repeat_search.proofs.fold.Goals as goal

pub overflow_mul-result : goal.overflow_mul-result
overflow_mul-result c =
    let x = xor_lt 32 (c.args.h % 4294967296) c.from.result (omega arith) (omega (arith, c.from.ensures, c.ranges.v.fits)) in
    record { fits = halves-fit _ _ x (omega (arith, c.from-3.ensures, c.ranges.seed.fits)) }

pub overflow_mul-result-2 : goal.overflow_mul-result-2
overflow_mul-result-2 c =
    let y = xor_lt 32 (c.args.h / 4294967296) c.from-2.result (omega (arith, c.ranges.h.fits)) (omega (arith, c.from-2.ensures, c.ranges.w.fits)) in
    record { fits = halves-fit _ _ y (omega (arith, c.from-4.ensures)) }
