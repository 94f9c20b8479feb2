-- A reading that ends, against the layout of its value: both directions.
use Rattle.std.specs.Prelude.{ℕ, ◌+◌, ◌≤◌, ◌≡◌, List, length}
use Rattle.format.specs.Reading.{part}

-- these bytes stand at p
abbrev pub At : List ℕ → ℕ → List ℕ → Type 0
At s p bs = part s p (length bs) ≡ bs

-- from the reading to the layout
pub record Placed (s : List ℕ) (p q : ℕ) (bs : List ℕ) (more : ℕ) : Type 0 where
  pub there : At s p bs
  pub next : q ≡ p + length bs
  pub room : p ≤ length s → q + more ≤ length s
