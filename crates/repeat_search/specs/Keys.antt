-- Keys in a row, and the first of them that repeats one before it.
use Rattle.std.specs.Prelude.{ℕ, suc, zero, ◌≤◌, ◌<◌, List, Bool, false, true, ◌≡◌}
use Rattle.format.specs.Trace.{pick}
use Rattle.format.specs.Reading.{same}

-- a name and its package, and whether the key may be repeated
pub record Key : Type 0 where
  pub name : List ℕ
  pub package_name : List ℕ
  pub exempt : Bool

abbrev pub same_key : Key → Key → Bool
same_key x y = pick (same x.name y.name) (same x.package_name y.package_name) false

-- whether x is the same as one of the first n keys
unfoldable pub among : Key → ℕ → (ℕ → Key) → Bool
among x zero keys = false
among x (suc n) keys = pick (same_key x (keys 0)) true (among x n (λ k. keys (suc k)))

-- whether key i repeats one before it
unfoldable pub repeat_at : (ℕ → Key) → ℕ → Bool
repeat_at keys i = pick (keys i).exempt false (among (keys i) i keys)

-- the hash of a key, by its name and its package
abbrev pub hash_of : (List ℕ → List ℕ → ℕ) → Key → ℕ
hash_of hash x = hash x.name x.package_name

-- and whether it is of a kind, by them
abbrev pub kind_of : (List ℕ → List ℕ → Type 0) → Key → Type 0
kind_of Kind x = Kind x.name x.package_name

-- q is the first of n keys that repeats one before it, or n.
pub record FirstRepeat (keys : ℕ → Key) (n q : ℕ) : Type 0 where
  pub within : q ≤ n
  pub new : (k : ℕ) → k < q → repeat_at keys k ≡ false
  pub found : q < n → repeat_at keys q ≡ true
