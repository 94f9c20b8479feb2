-- The law of bits: what a word has, it has with more bits.
use Rattle.std.proofs.Common.{ℕ, ◌/◌, ◌%◌, ◌≤◌, min, max, ◌≡◌, ◌∙◌, arith, le_antisymm, bit_and, bit_or}
use native.Mathlib.Nat.{min-le_left, min-le_right, le-max_left, le-min, max-le}
use lib.Arith.{bin_ind}
use lib.Bits.{and_step, or_step, and_zero_r}

digit-stays : (b v m : ℕ) → b ≤ 1 → v ≤ 1 → m ≤ 1 → min b m ≡ m → min (max b v) m ≡ m
digit-stays b v m h i j e = le_antisymm (min-le_right _ _) (le-min (omega (arith, min-le_left b m, le-max_left b v)) (omega arith))

pub bits-stay : (w v m : ℕ) → bit_and w m ≡ m → bit_and (bit_or w v) m ≡ m
bits-stay w = bin_ind (λ (n : ℕ). (v m : ℕ) → bit_and n m ≡ m → bit_and (bit_or n v) m ≡ m) base step w
  where
    base : (v m : ℕ) → 0 ≡ m → bit_and v m ≡ m
    base v m e = rw (← e) (and_zero_r v)

    step : (n : ℕ) → ((v m : ℕ) → bit_and (n / 2) m ≡ m → bit_and (bit_or (n / 2) v) m ≡ m) → (v m : ℕ) → bit_and n m ≡ m
        → bit_and (bit_or n v) m ≡ m
    step n ih v m e =
        let d = and_step n m in
        let o = or_step n v in
        let b = min-le_right (n % 2) (m % 2) in
        let t : max (n % 2) (v % 2) ≤ 1 = max-le (omega arith) (omega arith) in
        let h : bit_and (n / 2) (m / 2) ≡ m / 2 = omega arith in
        let l : min (n % 2) (m % 2) ≡ m % 2 = omega arith in
        let x : bit_or n v / 2 ≡ bit_or (n / 2) (v / 2) = omega arith in
        let y : bit_or n v % 2 ≡ max (n % 2) (v % 2) = omega arith in
        and_step (bit_or n v) m ∙ rw (x, y, ih (v / 2) (m / 2) h, digit-stays (n % 2) (v % 2) (m % 2) (omega arith) (omega arith) (omega arith) l) (omega arith)
