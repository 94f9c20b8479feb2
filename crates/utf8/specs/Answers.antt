-- What the answers stand for in the definition of UTF-8.
use Rattle.std.specs.Prelude.{ℕ, ◌-◌, ◌≤◌, ◌<◌, ◌≡◌, List, Option, Some, None, IfSome, get_or, take, drop}
use Rattle.vob24.specs.Utf8 as def
use Rattle.utf8.specs.declared.Next.{Next}
use Rattle.utf8.specs.declared.Upto.{Upto}

abbrev pub next_of : Option Next → def.Next
next_of None = def.bad
next_of (Some q) = def.want q.more q.lo q.hi

abbrev pub scan_of : Option ℕ → def.Scan
scan_of None = def.ill_formed
scan_of (Some n) = def.characters n

-- the bytes of s from i up to `to`, where a character starts, after n of them
abbrev pub scan_at : List ℕ → ℕ → ℕ → ℕ → def.Scan
scan_at s to n i = def.scan_from n 0 0x80 0xbf (take (to - i) (drop i s))

-- a character can start at i: the bytes before it ask for no more
pub record Starts (s : List ℕ) (i : ℕ) : Type 0 where
  pub one : get_or s (i - 1) 0 < 0xc0
  pub two : get_or s (i - 2) 0 < 0xe0
  pub three : get_or s (i - 3) 0 < 0xf0

-- The scan from i, after n characters, fails or comes down to that from a place at or past stop.
pub data Scans (s : List ℕ) (to n i stop : ℕ) : Option Upto → Type 0 where
  fails : scan_at s to n i ≡ def.ill_formed → Scans s to n i stop None
  reaches : {q : Upto} → stop ≤ q.place → q.place ≤ to → q.characters ≤ q.place
      → scan_at s to n i ≡ scan_at s to q.characters q.place → Scans s to n i stop (Some q)

-- What the faster test says of a text holds of the scan; with no answer it says nothing.
abbrev pub Tries : List ℕ → Option ℕ → Type 0
Tries t r = IfSome r (λ n. def.scan t ≡ def.characters n)

-- the same of the bytes of s from i up to `to`, after n characters
abbrev pub TriesAt : List ℕ → ℕ → ℕ → ℕ → Option ℕ → Type 0
TriesAt s to n i r = IfSome r (λ m. scan_at s to n i ≡ def.characters m)
