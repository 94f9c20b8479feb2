-- The rule of the table of decompositions: 161 letters in ascending order, each from U+00C0 to U+017F, with a base
-- letter A-Z or a-z and a mark from U+0300 to U+033F. So no part of a decomposition is a letter of the table, and a
-- character outside the range stays.
use Rattle.std.specs.Prelude.{ℕ, suc, ◌≤◌, ◌≡◌, ◌⊎◌}
use mathlib.Core.List.{List, [], ◌∷◌, Memᴰ}
use Rattle.alike.specs.Decompositions.{letter_of, base_of, mark_of}

-- A-Z or a-z
abbrev pub Basic : ℕ → Type 0
Basic b = ((0x41 ≤ b) × (b ≤ 0x5a)) ⊎ ((0x61 ≤ b) × (b ≤ 0x7a))

-- a row whose letter is not below `least`
pub record Fits (least : ℕ) (d : ℕ × ℕ × ℕ) : Type 0 where
  pub above : least ≤ letter_of d
  pub within : letter_of d ≤ 0x17f
  pub base : Basic (base_of d)
  pub mark_low : 0x300 ≤ mark_of d
  pub mark_high : mark_of d ≤ 0x33f

-- rows in ascending order of their letters
pub data AllFit : ℕ → List (ℕ × ℕ × ℕ) → Type 0 where
  done : {least : ℕ} → AllFit least []
  also : {least : ℕ} {d : ℕ × ℕ × ℕ} {ds : List (ℕ × ℕ × ℕ)} → Fits least d → AllFit (suc (letter_of d)) ds → AllFit least (d ∷ ds)

-- ---- what a character is replaced by

-- a row of this letter
pub record RowOf (ds : List (ℕ × ℕ × ℕ)) (c : ℕ) : Type 0 where
  pub row : ℕ × ℕ × ℕ
  pub member : Memᴰ row ds
  pub letter : letter_of row ≡ c

-- the two parts of its row, or itself where it has none
pub data Replaced (ds : List (ℕ × ℕ × ℕ)) (c : ℕ) (l : List ℕ) : Type 0 where
  stays : (RowOf ds c → ⊥) → l ≡ c ∷ [] → Replaced ds c l
  parts : (r : RowOf ds c) → l ≡ base_of r.row ∷ mark_of r.row ∷ [] → Replaced ds c l
