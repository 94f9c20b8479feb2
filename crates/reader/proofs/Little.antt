-- The numbers of little-endian bytes, as std and as the layout has them.
use Rattle.std.specs.Prelude.{ℕ, ◌≡◌, List, [], ◌∷◌, length}
use Rattle.std.specs.Int.{w16, w32, w64, from_le_bytes}
use Rattle.std.proofs.Common.{arith, get_or}
use Rattle.format.specs.Reading.{little}

pub little_1 : (bs : List ℕ) → length bs ≡ 1 → get_or bs 0 0 ≡ little bs
unfolding little
little_1 [] e = absurd (omega arith)
little_1 (a ∷ []) e = omega arith
little_1 (a ∷ b ∷ bs) e = absurd (omega arith)

pub little_2 : (bs : List ℕ) → length bs ≡ 2 → from_le_bytes w16 bs ≡ little bs
unfolding little
little_2 [] e = absurd (omega arith)
little_2 (a ∷ []) e = absurd (omega arith)
little_2 (a ∷ b ∷ []) e = omega arith
little_2 (a ∷ b ∷ c ∷ bs) e = absurd (omega arith)

pub little_4 : (bs : List ℕ) → length bs ≡ 4 → from_le_bytes w32 bs ≡ little bs
unfolding little
little_4 [] e = absurd (omega arith)
little_4 (a ∷ []) e = absurd (omega arith)
little_4 (a ∷ b ∷ []) e = absurd (omega arith)
little_4 (a ∷ b ∷ c ∷ []) e = absurd (omega arith)
little_4 (a ∷ b ∷ c ∷ d ∷ []) e = omega arith
little_4 (a ∷ b ∷ c ∷ d ∷ x ∷ bs) e = absurd (omega arith)

pub little_8 : (bs : List ℕ) → length bs ≡ 8 → from_le_bytes w64 bs ≡ little bs
unfolding little
little_8 [] e = absurd (omega arith)
little_8 (a ∷ []) e = absurd (omega arith)
little_8 (a ∷ b ∷ []) e = absurd (omega arith)
little_8 (a ∷ b ∷ c ∷ []) e = absurd (omega arith)
little_8 (a ∷ b ∷ c ∷ d ∷ []) e = absurd (omega arith)
little_8 (a ∷ b ∷ c ∷ d ∷ f ∷ []) e = absurd (omega arith)
little_8 (a ∷ b ∷ c ∷ d ∷ f ∷ g ∷ []) e = absurd (omega arith)
little_8 (a ∷ b ∷ c ∷ d ∷ f ∷ g ∷ h ∷ []) e = absurd (omega arith)
little_8 (a ∷ b ∷ c ∷ d ∷ f ∷ g ∷ h ∷ i ∷ []) e = omega arith
little_8 (a ∷ b ∷ c ∷ d ∷ f ∷ g ∷ h ∷ i ∷ x ∷ bs) e = absurd (omega arith)
