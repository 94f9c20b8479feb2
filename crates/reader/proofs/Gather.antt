-- A number put together by shifts and ors from groups of seven bits, and bytes by their indexes.
use Prim.Native.Nat.{ℕ, zero, suc, ◌+◌, ◌*◌, ◌%◌, ◌^◌, ◌≤◌, ◌<◌}
use mathlib.Core.Path.{◌≡◌, refl}
use mathlib.Core.List.{List, [], ◌∷◌}
use native.Mathlib.Omega.{arith}
use native.Mathlib.Numerals.{add-one}
use lib.Bits.{bit_or, or_shifted_r}
use lib.Pow.{pow-add, shl_exact}
use lib.Arith.{digits_lt}
use lib.ListN.{length, get_or}
use lib.Seq.{drop-cons}
use Rattle.format.specs.Reading.{part}
use Rattle.format.specs.Layout.{Bytes}

-- the k elements from `at`, each read by its index
abbrev pub read : ℕ → List ℕ → ℕ → List ℕ
read zero s at = []
read (suc k) s at = get_or s at 0 ∷ read k s (at + 1)

pub read_take : (k : ℕ) (s : List ℕ) (at : ℕ) → at + k ≤ length s → part s at k ≡ read k s at
read_take zero s at h = refl
read_take (suc k) s at h = rw (drop-cons s at 0 (omega arith), ← add-one at, read_take k s (at + 1) (omega arith))

-- one group of m bits, put above the k bits of v: the or is a sum, which fits m + k bits
pub gather : (m k w v b : ℕ) → v < 2 ^ k → b < 2 ^ m → m + k ≤ w → bit_or v ((b * 2 ^ k) % 2 ^ w) ≡ b * 2 ^ k + v
gather m k w v b hv hb h = rw (shl_exact m k w hb h) (or_shifted_r b k v hv)

pub gather-lt : (m k v b : ℕ) → v < 2 ^ k → b < 2 ^ m → b * 2 ^ k + v < 2 ^ (m + k)
gather-lt m k v b hv hb = rw (pow-add 2 m k) (digits_lt hb hv)

pub bytes_read : (k : ℕ) (l : List ℕ) (at : ℕ) → ((i : ℕ) → get_or l i 0 < 256) → Bytes (read k l at)
bytes_read zero l at f = tt
bytes_read (suc k) l at f = (f at, bytes_read k l (at + 1) f)
