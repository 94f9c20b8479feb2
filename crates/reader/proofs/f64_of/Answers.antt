use Rattle.std.proofs.Common.{arith, ℕ, ◌≡◌, refl, sym, ◌∙◌, true}
use borrow.Author.Tests.{lt-ltb, le-ltb}
use lib.Ieee.{Float, nan, inf, fin, binary64, div, is_nan, of_bits}
use lib.Ieee.Bits.{nan_bits_is, nan_bits_above}
use Rattle.reader.proofs.f64_of.Goals as goal

is-nan : (x : Float) → is_nan x ≡ true → x ≡ nan
unfolding is_nan
is-nan nan e = refl
is-nan (inf s) e = let z : ◌≡◌ {A = ℕ} 0 1 = cc in absurd (let no : ⊥ = omega arith in no)
is-nan (fin s m k) e = let z : ◌≡◌ {A = ℕ} 0 1 = cc in absurd (let no : ⊥ = omega arith in no)

zero_by_zero : div binary64 (of_bits binary64 0) (of_bits binary64 0) ≡ nan
unfolding div of_bits
zero_by_zero = refl

pub float_from_bits-result : goal.float_from_bits-result
float_from_bits-result c = rw (nan_bits_above binary64 c.args.n, le-ltb _ _ c.if-n-gt9218868437227405312.false) tt

pub returns-then-n-gt9218868437227405312 : goal.returns-then-n-gt9218868437227405312
returns-then-n-gt9218868437227405312 c = rw zero_by_zero (sym (is-nan (of_bits binary64 c.args.n) (sym (nan_bits_is binary64 c.args.n) ∙ nan_bits_above binary64 c.args.n ∙ lt-ltb _ _ c.if-n-gt9218868437227405312.true)))
