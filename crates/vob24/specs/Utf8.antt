-- UTF-8, from the Unicode Standard: the test by Table 3-7, and apart from it the encoding by Table 3-6.
use Rattle.std.specs.Prelude.{ℕ, suc, ◌+◌, ◌-◌, ◌/◌, ◌%◌, ◌≤◌, ◌<◌, List, [], ◌∷◌, ◌++◌, ◌⊎◌, Bool, true, false, ◌&&◌, ltb, leb, eqb}
use Rattle.format.specs.Trace.{pick}

-- b is from lo to hi
abbrev pub in? : ℕ → ℕ → ℕ → Bool
in? lo hi b = leb lo b && leb b hi

-- What may come after a byte: nothing, or so many more bytes of its sequence, the next of them from lo to hi.
pub data Next : Type 0 where
  bad : Next
  want : (more lo hi : ℕ) → Next

abbrev pub choose : Bool → Next → Next → Next
choose true a b = a
choose false a b = b

-- Table 3-7, Well-Formed UTF-8 Byte Sequences, row by row: the first byte, how many follow, and the range of the
-- second.
abbrev pub lead : ℕ → Next
lead b =
    choose (in? 0x00 0x7f b) (want 0 0x80 0xbf)
    (choose (in? 0xc2 0xdf b) (want 1 0x80 0xbf)
    (choose (eqb b 0xe0) (want 2 0xa0 0xbf)
    (choose (in? 0xe1 0xec b) (want 2 0x80 0xbf)
    (choose (eqb b 0xed) (want 2 0x80 0x9f)
    (choose (in? 0xee 0xef b) (want 2 0x80 0xbf)
    (choose (eqb b 0xf0) (want 3 0x90 0xbf)
    (choose (in? 0xf1 0xf3 b) (want 3 0x80 0xbf)
    (choose (eqb b 0xf4) (want 3 0x80 0x8f) bad))))))))

-- A byte where so many more of a sequence are to come; where none, it is a first byte.
abbrev pub next : ℕ → ℕ → ℕ → ℕ → Next
next more lo hi b = choose (eqb more 0) (lead b) (choose (in? lo hi b) (want (more - 1) 0x80 0xbf) bad)

-- What a text's bytes come to: ill-formed, or so many characters.
pub data Scan : Type 0 where
  ill_formed : Scan
  characters : ℕ → Scan

abbrev pub after : Next → (ℕ → ℕ → ℕ → Scan) → Scan
after bad k = ill_formed
after (want more lo hi) k = k more lo hi

-- The bytes one by one, after n whole characters; a character is counted with its last byte.
abbrev pub scan_from : ℕ → ℕ → ℕ → ℕ → List ℕ → Scan
scan_from n more lo hi [] = pick (eqb more 0) (characters n) ill_formed
scan_from n more lo hi (b ∷ bs) = after (next more lo hi b) (λ m l h. scan_from (pick (eqb m 0) (suc n) n) m l h bs)

abbrev pub scan : List ℕ → Scan
scan bs = scan_from 0 0 0x80 0xbf bs

abbrev pub is_text : Scan → Bool
is_text ill_formed = false
is_text (characters n) = true

-- "Text: well-formed?"
abbrev pub well_formed : List ℕ → Bool
well_formed bs = is_text (scan bs)

-- A Unicode scalar value.
abbrev pub Scalar : ℕ → Type 0
Scalar v = (v < 0xd800) ⊎ ((0xe000 ≤ v) × (v < 0x110000))

abbrev pub choose_bytes : Bool → List ℕ → List ℕ → List ℕ
choose_bytes true a b = a
choose_bytes false a b = b

-- Table 3-6, UTF-8 Bit Distribution.
abbrev pub encode : ℕ → List ℕ
encode v =
    choose_bytes (ltb v 0x80) (v ∷ [])
    (choose_bytes (ltb v 0x800) ((0xc0 + v / 64) ∷ (0x80 + v % 64) ∷ [])
    (choose_bytes (ltb v 0x10000) ((0xe0 + v / 4096) ∷ (0x80 + v / 64 % 64) ∷ (0x80 + v % 64) ∷ [])
    ((0xf0 + v / 262144) ∷ (0x80 + v / 4096 % 64) ∷ (0x80 + v / 64 % 64) ∷ (0x80 + v % 64) ∷ [])))

-- These bytes are the encodings of n scalar values, one after the other.
pub data Encodes : ℕ → List ℕ → Type 0 where
  none : Encodes 0 []
  more : (v : ℕ) {n : ℕ} {t : List ℕ} → Scalar v → Encodes n t → Encodes (suc n) (encode v ++ t)
