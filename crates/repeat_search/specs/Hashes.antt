-- The hash of a key's bytes, under a seed.
use Rattle.std.specs.Prelude.{ℕ, suc, zero, ◌+◌, ◌-◌, ◌*◌, ◌/◌, ◌%◌, ◌≤◌, ◌<◌, ◌≡◌, List, [], ◌∷◌, Bool, true, false, length, get_or, eqb, ltb}
use Rattle.std.specs.Int.Bits.{bit_xor}
use Rattle.format.specs.Trace.{pick}
use Rattle.format.specs.Reading.{little, part}
use Rattle.folding.specs.Bytes.{fold_bytes}
use Rattle.folding.specs.Contract.{span}
use Rattle.repeat_search.specs.declared.Taken.{Taken}

abbrev pub mixed : ℕ → ℕ → ℕ → ℕ
mixed seed h w = bit_xor h w % 4294967296 * seed + bit_xor h w / 4294967296

-- two words at once, each by a factor of its own
abbrev pub folded : ℕ → ℕ → ℕ → ℕ → ℕ
folded seed h v w = bit_xor (bit_xor (h % 4294967296) v * seed) (bit_xor (h / 4294967296) w * ((seed + 1013904242) % 4294967296))

-- of the second lane
abbrev pub second_seed : ℕ → ℕ
second_seed seed = (seed + 2773480762) % 4294967296

unfoldable pub word_in : List ℕ → ℕ → ℕ
word_in x j = little (part x j 4)

-- fewer than eight bytes
unfoldable pub short_hash : ℕ → ℕ → List ℕ → ℕ
short_hash seed h x =
    pick (eqb (length x) 0) h
    (pick (ltb (length x) 4) (folded seed h (get_or x 0 0 + 256 * get_or x (length x / 2) 0) (get_or x (length x - 1) 0))
    (folded seed h (word_in x 0) (word_in x (length x - 4))))

-- m blocks of sixteen bytes from j on in two lanes, and then the last sixteen, or of fewer the first eight and the last
-- eight
unfoldable pub lanes_hash : ℕ → ℕ → ℕ → List ℕ → ℕ → ℕ → ℕ
lanes_hash seed lane1 lane2 x j zero =
    bit_xor (folded seed lane1 (word_in x (length x - 16)) (word_in x (length x - 16 + 4)))
    (folded (second_seed seed) lane2 (word_in x (length x - 8)) (word_in x (length x - 4)))
lanes_hash seed lane1 lane2 x j (suc m) = lanes_hash seed (folded seed lane1 (word_in x j) (word_in x (j + 4))) (folded (second_seed seed) lane2 (word_in x (j + 8)) (word_in x (j + 12))) x (j + 16) m

unfoldable pub bytes_hash : ℕ → ℕ → List ℕ → ℕ
bytes_hash seed h x = pick (ltb (length x) 8) (short_hash seed h x) (lanes_hash seed h h x 0 ((length x - 1) / 16))

unfoldable pub text_hash : ℕ → ℕ → List ℕ → ℕ
text_hash seed h x = bytes_hash seed (mixed seed h (length x)) x

-- bytes that come one by one
unfoldable pub stream_hash : ℕ → ℕ → List ℕ → ℕ
stream_hash seed h [] = h
stream_hash seed h (b ∷ bs) = stream_hash seed (mixed seed h b) bs

abbrev pub ended : ℕ → ℕ → ℕ
ended seed h = mixed seed (mixed seed h 0) 0

-- of a name and its package
unfoldable pub plain_hash : ℕ → List ℕ → List ℕ → ℕ
plain_hash seed x y = ended seed (text_hash seed (text_hash seed 0 y) x)

-- of a name whose bytes come one by one, with no package
unfoldable pub streamed_hash : ℕ → List ℕ → List ℕ → ℕ
streamed_hash seed x y = ended seed (stream_hash seed seed x)

-- The last four bytes of a name where they are ASCII, else 0: k bytes since the last that is not, in the word w. Folding
-- leaves them as they are, so that a name has them before and after.
unfoldable pub tail_from : ℕ → ℕ → List ℕ → ℕ
tail_from k w [] = pick (ltb k 4) 0 w
tail_from k w (b ∷ bs) = pick (ltb b 128) (tail_from (k + 1) (w / 256 + 16777216 * b) bs) (tail_from 0 0 bs)

abbrev pub tail_of : List ℕ → ℕ
tail_of = tail_from 0 0

unfoldable pub tail_hash : ℕ → List ℕ → ℕ
tail_hash seed x = ended seed (tail_of x)

-- whether all bytes are ASCII
unfoldable pub lows : List ℕ → Bool
lows [] = true
lows (b ∷ bs) = pick (ltb b 128) (lows bs) false

-- ---- of bytes in a row: what the code asks and tells

-- n bytes at start
pub record PartAt (s : List ℕ) (start n : ℕ) : Type 0 where
  pub room : start + n ≤ length s

pub record JoinIs (seed lane1 lane2 : ℕ) (s : List ℕ) (p end q : ℕ) : Type 0 where
  pub is : q ≡ bit_xor (folded seed lane1 (little (part s p 4)) (little (part s (p + 4) 4))) (folded (second_seed seed) lane2 (little (part s (end - 8) 4)) (little (part s (end - 4) 4)))

pub record HashIs (seed h : ℕ) (x : List ℕ) (q : ℕ) : Type 0 where
  pub is : q ≡ bytes_hash seed h x

-- the folded bytes from a place to an end, of which some were taken in
pub record TakenIn (seed : ℕ) (s : List ℕ) (at end h : ℕ) (q : Taken) : Type 0 where
  pub is : stream_hash seed h (fold_bytes (span s at end)) ≡ stream_hash seed q.hash (fold_bytes (span s q.at end))
  pub on : at < q.at
  pub within : q.at ≤ end

-- bytes from a place to an end that are to be hashed
pub record Streams (s : List ℕ) (at end : ℕ) : Type 0 where
  pub some : at < end
  pub room : end ≤ length s
