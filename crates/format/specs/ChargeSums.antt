-- The sum of a reading's charges as a function of the value that was read.
use Rattle.std.specs.Prelude.{ℕ, ◌+◌, ◌*◌, List, [], ◌∷◌, length}
use Rattle.format.specs.Format.{Value, number, content, first, second, Ask, pay, deny, Leaf, fixed, mark, packed, string, payload, count, ask, Format, empty, leaf, seq}

-- The charges that a format puts to a value.
unfoldable pub charges_ask : List Ask → ℕ
charges_ask [] = 0
charges_ask (pay c n ∷ l) = n + charges_ask l
charges_ask (deny w ∷ l) = charges_ask l

unfoldable pub charges_leaf : Leaf → Value → ℕ
charges_leaf (fixed w r) v = 0
charges_leaf (mark m y) v = 0
charges_leaf packed v = 0
charges_leaf (string r c ok) v = length (content v)
charges_leaf (payload r c) v = length (content v)
charges_leaf (count r m c z) v = number v * z
charges_leaf (ask l) v = charges_ask l

unfoldable pub charges : Format → Value → ℕ
charges empty v = 0
charges (leaf l) v = charges_leaf l v
charges (seq f g) v = charges f (first v) + charges (g (first v)) (second v)
