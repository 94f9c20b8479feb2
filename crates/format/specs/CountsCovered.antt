-- Formats whose counts ask for nothing that their items do not hold: what they ask against the bytes left is implied by
-- the layout.
use Rattle.std.specs.Prelude.{ℕ, ◌≤◌, ◌≡◌, List, [], ◌∷◌, length}
use Rattle.format.specs.Format.{Value, Format}
use Rattle.format.specs.Layout.{bytes, Valid, ahead}

-- Every value of f takes at least k bytes.
unfoldable pub AtLeast : ℕ → Format → Type 0
AtLeast k f = (v : Value) (p : ℕ) → Valid f v p → k ≤ length (bytes f v)

-- No count of a value of f asks for bytes past the value.
unfoldable pub Closed : Format → Type 0
Closed f = (v : Value) (p : ℕ) → Valid f v p → ahead f v ≡ 0

pub data All : List Format → Type 0 where
  done : All []
  also : {f : Format} {fs : List Format} → Closed f → All fs → All (f ∷ fs)
