-- The record: the words that stand for a value, and the value that words and texts stand for.
use Rattle.std.specs.Prelude.{ℕ, ◌+◌, ◌-◌, ◌*◌, ◌/◌, ◌%◌, ◌≡◌, List, [], ◌∷◌, ◌++◌, length, get_or, drop, eqb}
use Rattle.format.specs.Trace.{pick}
use Rattle.format.specs.Format.{Value, none, num, text, pair, number, start, content, first, second, Width, byte, half, word, long, option, Leaf, fixed, mark, packed, string, payload, count, ask, Format, empty, leaf, seq}
use Rattle.format.specs.Reading.{part}

-- "number or bool one word, 64-bit low word then high, optional id always two words (0 0, or 1 and id)"
abbrev pub shown : Width → ℕ → List ℕ
shown byte n = n ∷ []
shown half n = n ∷ []
shown word n = n ∷ []
shown long n = (n % 4294967296) ∷ (n / 4294967296) ∷ []
shown option n = pick (eqb n 0) 0 1 ∷ (n - 1) ∷ []

-- "text or payload start and length, list its count then its items"
unfoldable pub words_leaf : Leaf → Value → List ℕ
words_leaf (fixed w r) v = shown w (number v)
words_leaf (mark m y) v = []
words_leaf packed v = number v ∷ []
words_leaf (string r c ok) v = start v ∷ length (content v) ∷ []
words_leaf (payload r c) v = start v ∷ length (content v) ∷ []
words_leaf (count r m c z) v = number v ∷ []
words_leaf (ask l) v = []

-- Document 01's record of a value: "each field in file order".
unfoldable pub words : Format → Value → List ℕ
words empty v = []
words (leaf l) v = words_leaf l v
words (seq f g) v = words f (first v) ++ words (g (first v)) (second v)

-- The other way: the value of words, and the words after it. Texts and payloads are looked up in the bytes s.
abbrev pub unshown : Width → List ℕ → ℕ
unshown byte ws = get_or ws 0 0
unshown half ws = get_or ws 0 0
unshown word ws = get_or ws 0 0
unshown long ws = get_or ws 0 0 + 4294967296 * get_or ws 1 0
unshown option ws = get_or ws 0 0 + get_or ws 1 0

abbrev pub words_of : Width → ℕ
words_of byte = 1
words_of half = 1
words_of word = 1
words_of long = 2
words_of option = 2

unfoldable pub decode_leaf : Leaf → List ℕ → List ℕ → Value × List ℕ
decode_leaf (fixed w r) ws s = (num (unshown w ws), drop (words_of w) ws)
decode_leaf (mark m y) ws s = (none, ws)
decode_leaf packed ws s = (num (get_or ws 0 0), drop 1 ws)
decode_leaf (string r c ok) ws s = (text (get_or ws 0 0) (part s (get_or ws 0 0) (get_or ws 1 0)), drop 2 ws)
decode_leaf (payload r c) ws s = (text (get_or ws 0 0) (part s (get_or ws 0 0) (get_or ws 1 0)), drop 2 ws)
decode_leaf (count r m c z) ws s = (num (get_or ws 0 0), drop 1 ws)
decode_leaf (ask l) ws s = (none, ws)

unfoldable pub decode : Format → List ℕ → List ℕ → Value × List ℕ
decode empty ws s = (none, ws)
decode (leaf l) ws s = decode_leaf l ws s
decode (seq f g) ws s = let r = decode f ws s in let t = decode (g r.0) r.1 s in (pair r.0 t.0, t.1)

-- Every text and payload of the value stands in s where the value says.
abbrev pub Held : Value → List ℕ → Type 0
Held none s = Unit {0}
Held (num n) s = Unit {0}
Held (text p b) s = part s p (length b) ≡ b
Held (pair v w) s = Held v s × Held w s
