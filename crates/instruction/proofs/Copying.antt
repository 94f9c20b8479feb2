-- An instruction's five words, copied at once.
use Prim.Native.Nat.{ℕ, suc, ◌+◌, ◌≤◌}
use mathlib.Core.Path.{◌≡◌}
use mathlib.Core.List.{List}
use native.Mathlib.Omega.{arith}
use lib.ListN.{length, get_or, set}
use lib.Seq.{sets}
use Rattle.format.specs.Reading.{little, part}
use Rattle.lists.specs.Runs.{numbers_at}
use Rattle.lists.proofs.Copying.{byte_at}
use Rattle.instruction.specs.Formats.{instruction_widths}

-- the words of one, stored
pub put_five : (s t : List ℕ) (p at : ℕ) {a b c d e : ℕ} → p + 8 ≤ length s → a ≡ get_or s p 0 → b ≡ get_or s (p + 1) 0
    → c ≡ little (part s (p + 2) 2) → d ≡ little (part s (p + 4) 2) → e ≡ little (part s (p + 6) 2)
    → set (set (set (set (set t at a) (at + 1) b) (at + 2) c) (at + 3) d) (at + 4) e ≡ sets t at (numbers_at instruction_widths s p)
put_five s t p at h a b c d e =
    let i₁ : at + 1 ≡ suc at = omega arith in
    let i₂ : at + 2 ≡ suc (suc at) = omega arith in
    let i₃ : at + 3 ≡ suc (suc (suc at)) = omega arith in
    let i₄ : at + 4 ≡ suc (suc (suc (suc at))) = omega arith in
    let j₁ : p + 1 + 1 ≡ p + 2 = omega arith in
    let j₂ : p + 2 + 2 ≡ p + 4 = omega arith in
    let j₃ : p + 4 + 2 ≡ p + 6 = omega arith in
    rw (i₁, i₂, i₃, i₄, j₁, j₂, j₃, byte_at s p (omega arith), byte_at s (p + 1) (omega arith), a, b, c, d, e)
