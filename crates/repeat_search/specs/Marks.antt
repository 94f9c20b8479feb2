-- The marks by which a few keys are told apart: a bit of one word for each name, by its length and its last byte or by
-- its hash.
use Rattle.std.specs.Prelude.{ℕ, ◌+◌, ◌-◌, ◌*◌, ◌%◌, ◌^◌, ◌<◌, ◌≡◌, List, [], Bool, true, length, get_or}
use Rattle.std.specs.Int.Bits.{bit_and}
use Rattle.repeat_search.specs.Keys.{Key, FirstRepeat}
use Rattle.repeat_search.specs.Hashes.{streamed_hash}

-- the bit of a number
abbrev pub bit : ℕ → ℕ
bit n = 1 * 2 ^ (n % 64) % 2 ^ 64

unfoldable pub mark_of : List ℕ → ℕ
mark_of x = bit (length x + get_or x (length x - 1) 0)

-- of a name whose bytes come one by one: by its hash
unfoldable pub streamed_mark : List ℕ → ℕ
streamed_mark x = bit (streamed_hash 2654435761 x [])

-- m has the marks of the first i keys
pub record Marked (mark : List ℕ → ℕ) (keys : ℕ → Key) (i m : ℕ) : Type 0 where
  pub has : (k : ℕ) → k < i → bit_and m (mark (keys k).name) ≡ mark (keys k).name

-- if q, then no key repeats one before it
pub record AllNew (keys : ℕ → Key) (n : ℕ) (q : Bool) : Type 0 where
  pub first : q ≡ true → FirstRepeat keys n n
