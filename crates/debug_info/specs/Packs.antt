-- A packed number read off the little-endian number of the bytes that begin with it.
use Rattle.std.specs.Prelude.{ℕ, suc, ◌+◌, ◌-◌, ◌*◌, ◌/◌, ◌%◌, ◌≤◌, ◌<◌}

-- x begins with the packed number v of j bytes, at most k of them. The first, where it is the last, is at least m.
pub data Packs : ℕ → ℕ → ℕ → ℕ → ℕ → Type 0 where
  last : {k m x : ℕ} → x % 256 < 128 → m ≤ x % 256 → Packs (suc k) m x (x % 256) 1
  more : {k m x v j : ℕ} → 128 ≤ x % 256 → Packs k 1 (x / 256) v j → Packs (suc k) m x (x % 256 - 128 + 128 * v) (suc j)
