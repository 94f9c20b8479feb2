-- The laws of the masks and shifts that take a packed number apart and put it together.
use Prim.Native.Nat.{ℕ, suc, ◌+◌, ◌-◌, ◌*◌, ◌/◌, ◌%◌, ◌≤◌, ◌<◌}
use mathlib.Core.Path.{◌≡◌}
use native.Mathlib.Omega.{arith}
use lib.Bits.{bit_and, and_mask}
use Rattle.debug_info.specs.Packs.{Packs, last, more}

-- a group of seven bits, and the groups above it

pub masked-last : {k m x : ℕ} → bit_and x 255 < 128 → m ≤ bit_and x 255 → Packs (suc k) m x (bit_and x 255) 1
masked-last {x = x} h l = rw (and_mask x 8) (last (rw (and_mask x 8) at h) (rw (and_mask x 8) at l))

pub masked-more : {k m x v w j : ℕ} → 128 ≤ bit_and x 255 → w ≡ bit_and x 255 % 128 + 128 * v → Packs k 1 (x / 256) v j
    → Packs (suc k) m x w (suc j)
masked-more {x = x} {v = v} h e p =
    let a : bit_and x 255 ≡ x % 256 = and_mask x 8 in
    let f : x % 256 % 128 + 128 * v ≡ x % 256 - 128 + 128 * v = omega (arith, rw a at h) in
    rw (e, a, f) (more (rw a at h) p)
