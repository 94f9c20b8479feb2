-- A byte within a range, below it, above it.
use Rattle.std.specs.Prelude.{ℕ, ◌≤◌, ◌<◌, ◌≡◌, refl, Bool, true, false, ◌⊎◌, leb, ltb}
use Rattle.std.proofs.Math.Bool.{and-false}
use Rattle.std.proofs.Common.{le-leb, ltb-true, ltb-false, inl, inr}
use Rattle.std.proofs.lemmas.Bool.{lt-leb}
use Rattle.vob24.specs.Utf8.{in?}

pub inside : (lo hi b : ℕ) → lo ≤ b → b ≤ hi → in? lo hi b ≡ true
inside lo hi b h k = rw (le-leb lo b h, le-leb b hi k)

pub below : (lo hi b : ℕ) → b < lo → in? lo hi b ≡ false
below lo hi b h = rw (lt-leb lo b h)

pub above : (lo hi b : ℕ) → hi < b → in? lo hi b ≡ false
above lo hi b h = rw (lt-leb b hi h) (and-false (leb lo b))

pub lt-or-ge : (b k : ℕ) → (b < k) ⊎ (k ≤ b)
lt-or-ge b k = go (ltb b k) refl
  where
    go : (t : Bool) → ltb b k ≡ t → (b < k) ⊎ (k ≤ b)
    go true e = inl (ltb-true b k e)
    go false e = inr (ltb-false b k e)
