-- Items read at once: what they leave of the list, and what stands on the tape.
use Rattle.std.specs.Prelude.{ℕ, suc, zero, ◌+◌, ◌*◌, ◌≤◌, ◌<◌, ◌≡◌, List, [], ◌∷◌, ◌++◌, get_or, Ok}
use Rattle.std.proofs.lemmas.List.Edits.{sets}
use Rattle.format.specs.Format.{Format, times}
use Rattle.format.specs.Reading.{little, part}
use Rattle.reader.specs.Contract.{ComesTo}
use Rattle.reader.specs.declared.Cursor.{Cursor}
use Rattle.lists.specs.declared.Rest.{Rest}

-- the cursor past so many bytes and words, at no charge
abbrev pub advanced : Cursor → ℕ → ℕ → Cursor
advanced c bytes words = record { place = c.place + bytes; left = c.left; at = c.at + words }

-- The contract of a run: the reading of n items at c comes down to that of the rest.
abbrev pub Runs : Format → List ℕ → Cursor → List ℕ → ℕ → Rest → List ℕ → Type 0
Runs f s c t n q t' = ComesTo (times f n) (times f q.items) s (Ok c) t (Ok q.at) t'

-- An item of fixed width, by the widths of its numbers in bytes: its own width, and its words at a place.
abbrev pub width : List ℕ → ℕ
width [] = 0
width (w ∷ ws) = w + width ws

abbrev pub numbers_at : List ℕ → List ℕ → ℕ → List ℕ
numbers_at [] s p = []
numbers_at (w ∷ ws) s p = little (part s p w) ∷ numbers_at ws s (p + w)

-- The words of n such items from p on.
unfoldable pub words_at : List ℕ → ℕ → List ℕ → ℕ → List ℕ
words_at ws zero s p = []
words_at ws (suc n) s p = numbers_at ws s p ++ words_at ws n s (p + width ws)

-- They are on the tape from `at` on, as far as the tape goes.
pub record Copied (ws : List ℕ) (n : ℕ) (s : List ℕ) (from : ℕ) (t : List ℕ) (at : ℕ) (t' : List ℕ) : Type 0 where
  pub is : t' ≡ sets t at (words_at ws n s from)

-- n items of j words each from `at` on: a tape of this length has room for all of them or for nothing.
pub data Fits (j n at length : ℕ) : Type 0 where
  ended : length ≤ at → Fits j n at length
  room : at + j * n ≤ length → Fits j n at length

-- each byte from `from` on, up to `to`, is at most `most`
pub record Low (s : List ℕ) (from to most : ℕ) : Type 0 where
  pub low : (k : ℕ) → from ≤ k → k < to → get_or s k 0 ≤ most

-- The first k of n bytes, which are small, are on the tape.
pub record CopiedLow (n : ℕ) (s : List ℕ) (from most : ℕ) (t : List ℕ) (at k : ℕ) (t' : List ℕ) : Type 0 where
  pub within : k ≤ n
  pub low : Low s from (from + k) most
  pub copied : Copied (1 ∷ []) k s from t at t'
