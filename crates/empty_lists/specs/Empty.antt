-- Lists that are empty, one after the other.
use Rattle.std.specs.Prelude.{ℕ, suc, zero, ◌+◌, ◌*◌, ◌≤◌, ◌<◌, ◌≡◌, List, length, set}
use Rattle.format.specs.Reading.{little, part}
use Rattle.reader.specs.declared.Cursor.{Cursor}

-- At p stands the count of an empty list.
pub record Zero (s : List ℕ) (p : ℕ) : Type 0 where
  pub room : p + 4 ≤ length s
  pub is : little (part s p 4) ≡ 0

-- The counts of n of them, from p on.
pub record Zeros (s : List ℕ) (p n : ℕ) : Type 0 where
  pub each : (k : ℕ) → k < n → Zero s (p + 4 * k)

-- The cursor past an empty list, and past n of them.
abbrev pub cursor_past : Cursor → Cursor
cursor_past c = record { place = c.place + 4; left = c.left; at = c.at + 1 }

abbrev pub cursor_after : ℕ → Cursor → Cursor
cursor_after zero c = c
cursor_after (suc n) c = cursor_past (cursor_after n c)

-- The tape with the counts of n of them.
abbrev pub tape_after : ℕ → Cursor → List ℕ → List ℕ
tape_after zero c t = t
tape_after (suc n) c t = set (tape_after n c t) (cursor_after n c).at 0

-- Past n empty lists.
pub record PastEmpty (n : ℕ) (c : Cursor) (t : List ℕ) (d : Cursor) (t' : List ℕ) : Type 0 where
  pub is : d ≡ cursor_after n c
  pub writes : t' ≡ tape_after n c t
