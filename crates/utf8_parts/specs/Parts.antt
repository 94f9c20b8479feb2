-- Many bytes at once: each is held against the three before it. A text is well-formed where each of its bytes stands as
-- it should and the bytes before its start and its end ask for no more (`Starts` of crate `utf8`); its characters are
-- the bytes that are not trailing ones.
use Rattle.std.specs.Prelude.{ℕ, suc, zero, ◌+◌, ◌-◌, ◌/◌, ◌≤◌, ◌<◌, ◌≡◌, List, Option, Some, None, cond, eqb, ltb, get_or}
use Rattle.format.specs.Trace.{pick}
use Rattle.utf8_parts.specs.declared.Part.{Part}

-- m, or what it lacks of 255 where b is a trailing byte, 80..BF
pub record Flipped (b m q : ℕ) : Type 0 where
  pub yes : b / 64 ≡ 2 → q ≡ 255 - m
  pub no : (b / 64 ≡ 2 → ⊥) → q ≡ m

-- what a byte b and c1, the one before it, tell: b is not C0 or C1; E0 asks for A0..BF, ED for 80..9F
pub record Pair (c1 b : ℕ) : Type 0 where
  pub short : b / 2 ≡ 0x60 → ⊥
  pub e0 : c1 ≡ 0xe0 → 0xa0 ≤ b
  pub ed : c1 ≡ 0xed → b < 0xa0

-- b is a trailing byte exactly where a byte before it asks for one: C0 and above for one more, E0 and above for two, F0
-- and above for three
pub record Follows (c3 c2 c1 b : ℕ) : Type 0 where
  pub first : c1 < 0xc0 → c2 < 0xe0 → c3 < 0xf0 → b / 64 ≡ 2 → ⊥
  pub second : 0xc0 ≤ c1 → b / 64 ≡ 2
  pub third : 0xe0 ≤ c2 → b / 64 ≡ 2
  pub fourth : 0xf0 ≤ c3 → b / 64 ≡ 2

-- b stands as it should after c3, c2 and c1, but for F4 and above; F0 asks for 90..BF
pub record Near (c3 c2 c1 b : ℕ) : Type 0 where
  pub follows : Follows c3 c2 c1 b
  pub pair : Pair c1 b
  pub f0 : c1 ≡ 0xf0 → 0x90 ≤ b

-- F4 asks for 80..8F, and no byte is above it
pub record Stands (c3 c2 c1 b : ℕ) : Type 0 where
  pub near : Near c3 c2 c1 b
  pub f4 : c1 ≡ 0xf4 → b < 0x90
  pub most : b < 0xf5

pub record StandsAt (s : List ℕ) (k : ℕ) : Type 0 where
  pub stands : Stands (get_or s (k - 3) 0) (get_or s (k - 2) 0) (get_or s (k - 1) 0) (get_or s k 0)

-- a test that says P of each byte and the three before it, and r, is enough for these bytes: where r is below 128 the
-- byte stands as it should
pub record Tells (P : ℕ → ℕ → ℕ → ℕ → ℕ → Type 0) (s : List ℕ) (from to : ℕ) : Type 0 where
  pub each : (k r : ℕ) → from ≤ k → k < to
      → P (get_or s (k - 3) 0) (get_or s (k - 2) 0) (get_or s (k - 1) 0) (get_or s k 0) r → r < 128 → StandsAt s k

pub record Standing (s : List ℕ) (from to : ℕ) : Type 0 where
  pub each : (k : ℕ) → from ≤ k → k < to → StandsAt s k

-- 1 for a trailing byte
abbrev pub is_trailing : ℕ → ℕ
is_trailing b = pick (eqb (b / 64) 2) 1 0

-- how many of w bytes at i are trailing bytes
abbrev pub trailing_in : List ℕ → ℕ → ℕ → ℕ
trailing_in s i zero = 0
trailing_in s i (suc w) = is_trailing (get_or s i 0) + trailing_in s (suc i) w

-- each byte is below 128
pub record Ascii (s : List ℕ) (from to : ℕ) : Type 0 where
  pub low : (k : ℕ) → from ≤ k → k < to → get_or s k 0 < 128

-- no byte is above q
pub record Most (s : List ℕ) (from to q : ℕ) : Type 0 where
  pub each : (k : ℕ) → from ≤ k → k < to → get_or s k 0 ≤ q

-- the bytes that are not trailing ones, where each stands as it should
abbrev pub characters_of : Part → Option ℕ
characters_of p = cond (ltb p.wrong 128) (Some (p.width - p.trailing)) None

-- what was found of the bytes at from
pub record Tests (s : List ℕ) (from : ℕ) (p : Part) : Type 0 where
  pub stands : p.wrong < 128 → Standing s from (from + p.width)
  pub count : p.trailing ≡ trailing_in s from p.width
  pub few : p.trailing ≤ p.width

-- a part of the bytes up to `end`
pub record PartOf (s : List ℕ) (from end : ℕ) (p : Part) : Type 0 where
  pub tests : Tests s from p
  pub some : 0 < p.width
  pub within : from + p.width ≤ end
