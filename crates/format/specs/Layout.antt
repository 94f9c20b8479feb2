-- The layout: the bytes that a value stands for, and the values that a format has.
use Rattle.std.specs.Prelude.{ℕ, suc, zero, ◌+◌, ◌-◌, ◌*◌, ◌^◌, ◌/◌, ◌%◌, ◌<◌, max, ◌≡◌, List, [], ◌∷◌, ◌++◌, Bool, true, false, length, T, ltb}
use Rattle.format.specs.Trace.{pick}
use Rattle.format.specs.Format.{Value, none, num, text, pair, number, content, first, second, Ask, pay, deny, Leaf, fixed, mark, packed, string, payload, count, ask, Format, empty, leaf, seq}
use Rattle.format.specs.Reading.{size}

-- The k bytes of n, the low byte first.
unfoldable pub digits : ℕ → ℕ → List ℕ
digits zero n = []
digits (suc k) n = (n % 256) ∷ digits k (n / 256)

-- Unsigned LEB128 (DWARF 5, section 7.6) in its shortest form: seven bits a byte, the low group first, each but the
-- last with 128 added; at most k + 1 bytes.
unfoldable pub groups : ℕ → ℕ → List ℕ
groups zero n = n ∷ []
groups (suc k) n = pick (ltb n 128) (n ∷ []) ((128 + n % 128) ∷ groups k (n / 128))

-- Every element is a byte.
abbrev pub Bytes : List ℕ → Type 0
Bytes [] = Unit {0}
Bytes (b ∷ bs) = (b < 256) × Bytes bs

unfoldable pub bytes_leaf : Leaf → Value → List ℕ
bytes_leaf (fixed w r) v = digits (size w) (number v)
bytes_leaf (mark m y) v = m
bytes_leaf packed v = groups 4 (number v)
bytes_leaf (string r c ok) v = digits 4 (length (content v)) ++ content v
bytes_leaf (payload r c) v = digits 4 (length (content v)) ++ content v
bytes_leaf (count r m c z) v = digits 4 (number v)
bytes_leaf (ask l) v = []

-- The layout of a value.
unfoldable pub bytes : Format → Value → List ℕ
bytes empty v = []
bytes (leaf l) v = bytes_leaf l v
bytes (seq f g) v = bytes f (first v) ++ bytes (g (first v)) (second v)

-- No question of the list is a refusal.
unfoldable pub clear : List Ask → Bool
clear [] = true
clear (pay c n ∷ l) = clear l
clear (deny w ∷ l) = false

abbrev pub ValidLeaf : Leaf → Value → ℕ → Type 0
ValidLeaf (fixed w r) v p = (v ≡ num (number v)) × (number v < 256 ^ size w) × T (r.test (number v))
ValidLeaf (mark m y) v p = v ≡ none
ValidLeaf packed v p = (v ≡ num (number v)) × (number v < 4294967296)
ValidLeaf (string r c ok) v p = (v ≡ text (p + 4) (content v)) × (length (content v) < 4294967296) × T (r.test (length (content v))) × T (ok (content v))
ValidLeaf (payload r c) v p = (v ≡ text (p + 4) (content v)) × (length (content v) < 4294967296) × T (r.test (length (content v)))
ValidLeaf (count r m c z) v p = (v ≡ num (number v)) × (number v < 4294967296) × T (r.test (number v))
ValidLeaf (ask l) v p = (v ≡ none) × T (clear l)

-- The values of a format, laid out from the place p on: each field in its range, each question answered yes. The
-- questions about bytes left are not among them.
unfoldable pub Valid : Format → Value → ℕ → Type 0
Valid empty v p = v ≡ none
Valid (leaf l) v p = ValidLeaf l v p
Valid (seq f g) v p = (v ≡ pair (first v) (second v)) × Valid f (first v) p × Valid (g (first v)) (second v) (p + length (bytes f (first v)))

-- The bytes that the counts of a value ask for past the value's own.
unfoldable pub ahead_leaf : Leaf → Value → ℕ
ahead_leaf (fixed w r) v = 0
ahead_leaf (mark m y) v = 0
ahead_leaf packed v = 0
ahead_leaf (string r c ok) v = 0
ahead_leaf (payload r c) v = 0
ahead_leaf (count r m c z) v = number v * m
ahead_leaf (ask l) v = 0

unfoldable pub ahead : Format → Value → ℕ
ahead empty v = 0
ahead (leaf l) v = ahead_leaf l v
ahead (seq f g) v = max (ahead (g (first v)) (second v)) (ahead f (first v) - length (bytes (g (first v)) (second v)))
