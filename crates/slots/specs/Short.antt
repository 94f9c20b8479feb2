-- Short lists: what their quick way answers.
use Rattle.std.specs.Prelude.{ℕ, ◌+◌, ◌≤◌, ◌<◌, ◌≡◌, List, length, set}
use Rattle.format.specs.Reading.{little, part}
use Rattle.format.specs.Layout.{Bytes}
use Rattle.lists.specs.Runs.{CopiedLow}

-- A list of n slot types at p: its count, its items, all good, and their words on the tape from `at` on.
pub record Good (s : List ℕ) (p at : ℕ) (t : List ℕ) (n : ℕ) (t' : List ℕ) : Type 0 where
  pub some : 0 < n
  pub few : n ≤ 4
  pub room : p + 4 + n ≤ length s
  pub is : n ≡ little (part s p 4)
  pub bytes : Bytes (part s p 4)
  pub items : CopiedLow n s (p + 4) 5 (set t at n) (at + 1) n t'

-- Such a list; or 0 of any other, of which nothing is kept.
pub data Keeps (s : List ℕ) (p at : ℕ) (t : List ℕ) : ℕ → List ℕ → Type 0 where
  kept : {n : ℕ} {t' : List ℕ} → Good s p at t n t' → Keeps s p at t n t'
  other : Keeps s p at t 0 t
