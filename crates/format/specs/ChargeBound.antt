-- A bound on the charges of every reading, also of one that stops: so much a byte.
use Rattle.std.specs.Prelude.{ℕ, ◌+◌, ◌-◌, ◌*◌, ◌≤◌, List, length}
use Rattle.format.specs.Trace.{total, Ends}
use Rattle.format.specs.Format.{Value, Format}
use Rattle.format.specs.Reading.{trace}
use Rattle.format.specs.Layout.{Bytes}

-- The charges of f are at most c, and k for each byte: of those it takes where it ends, of those that are left where it
-- stops.
pub record Rated (c k : ℕ) (f : Format) : Type 0 where
  pub stops : (s : List ℕ) (p : ℕ) → Bytes s → p ≤ length s → total (trace f s p) ≤ c + k * (length s - p)
  pub ends : (s : List ℕ) (p : ℕ) {v : Value} {q : ℕ} → Bytes s → p ≤ length s → Ends (trace f s p) v q
      → total (trace f s p) ≤ c + k * (q - p)
