-- What a reading charges is document 01's cost of what it read.
use Rattle.std.specs.Prelude.{ℕ, ◌≡◌}
use Rattle.format.specs.Format.{Value, Format}
use Rattle.format.specs.ChargeSums.{charges}

-- Whatever the value, the format charges c of it.
pub record Costs (f : Format) (c : Value → ℕ) : Type 0 where
  pub is : (v : Value) → charges f v ≡ c v
