-- The laws of bytes that are tested many at once.
use Rattle.std.proofs.Common.{ℕ, suc, zero, ◌+◌, ◌-◌, ◌/◌, ◌≤◌, ◌<◌, ◌≡◌, refl, sym, ap, ◌∙◌, true, false, Bool, List, ⊎_elim, arith, eqb, eqb-true, eq-eqb, ne_eqb, bit_or, bit_and, get_or, length, take, drop, length-drop, length-take-le, get_or-take, get_or-drop}
use Rattle.std.proofs.lemmas.Bool.{cases_lt}
use borrow.Author.Tests.{eqb-false}
use lib.Bits.{or_add_and, and_le_l, and_le_r, or_lt, and_shr}
use mir.Val.{bool_byte}
use Rattle.format.specs.Trace.{pick}
use Rattle.utf8_parts.specs.Parts.{Ascii, Flipped, Pair, Follows, Near, Stands, StandsAt, Tells, Standing, is_trailing, trailing_in, Most, Tests, PartOf}
use Rattle.utf8_parts.specs.declared.Part.{Part}

-- ---- bits
pub or-low-l : (a b : ℕ) → bit_or a b < 128 → a < 128
or-low-l a b h = omega (arith, or_add_and a b, and_le_r a b)

pub or-low-r : (a b : ℕ) → bit_or a b < 128 → b < 128
or-low-r a b h = omega (arith, or_add_and a b, and_le_l a b)

or-high-l : (a b : ℕ) → 128 ≤ a → 128 ≤ bit_or a b
or-high-l a b h = omega (arith, or_add_and a b, and_le_r a b)

or-high-r : (a b : ℕ) → 128 ≤ b → 128 ≤ bit_or a b
or-high-r a b h = omega (arith, or_add_and a b, and_le_l a b)

or-both : (a b : ℕ) → a < 128 → b < 128 → bit_or a b < 128
or-both a b h k = or_lt 7 a b h k

-- ---- bytes of ASCII
pub low-before : {s : List ℕ} {from to : ℕ} → to ≤ from → Ascii s from to
low-before h = record { low = λ k x y. absurd (omega arith) }

pub low_byte : {s : List ℕ} {i j : ℕ} → get_or s i 0 < 128 → j ≤ i + 1 → Ascii s i j
low_byte {s} {i} h l = record { low = λ k x y. let e : k ≡ i = omega arith in rw e h }

pub low-join : {s : List ℕ} {a b c d : ℕ} → Ascii s a b → Ascii s c d → c ≤ b → Ascii s a d
low-join {b = b} l m h = record { low = λ k x y. ⊎_elim (λ z. l.low k x z) (λ z. m.low k (omega arith) y) (cases_lt k b) }

-- ---- one byte
module _ {b m q : ℕ} (f : Flipped b m q) (h : q < 128) where
  flip-asked : 128 ≤ m → b / 64 ≡ 2
  flip-asked k = go (eqb (b / 64) 2) refl
    where
      go : (t : Bool) → eqb (b / 64) 2 ≡ t → b / 64 ≡ 2
      go true e = eqb-true (b / 64) 2 e
      go false e = absurd (omega (arith, f.no (eqb-false (b / 64) 2 e)))

  flip-free : m < 128 → b / 64 ≡ 2 → ⊥
  flip-free k e = omega (arith, f.yes e)

-- m says whether the bytes before ask for a trailing byte
follows_of : {c3 c2 c1 b m q : ℕ} → Flipped b m q → q < 128 → (c1 < 0xc0 → c2 < 0xe0 → c3 < 0xf0 → m < 128)
    → (0xc0 ≤ c1 → 128 ≤ m) → (0xe0 ≤ c2 → 128 ≤ m) → (0xf0 ≤ c3 → 128 ≤ m) → Follows c3 c2 c1 b
follows_of f h none one two three =
    record {
      first = λ x y z. flip-free f h (none x y z);
      second = λ x. flip-asked f h (one x);
      third = λ x. flip-asked f h (two x);
      fourth = λ x. flip-asked f h (three x);
    }

pub pair_of : {c1 b x p q r : ℕ} → x ≡ b - 0x20 → (b / 2 ≡ 0x60 → p ≡ 255) → (c1 ≡ 0xe0 → q ≡ 255 - x)
    → (c1 ≡ 0xed → r ≡ x) → bit_or (bit_or p q) r < 128 → Pair c1 b
pair_of {c1} {b} {x} {p} {q} {r} e f g i h =
    let pq : bit_or p q < 128 = or-low-l (bit_or p q) r h in
    let lp : p < 128 = or-low-l p q pq in
    let lq : q < 128 = or-low-r p q pq in
    let lr : r < 128 = or-low-r (bit_or p q) r h in
    record {
      short = λ y. omega (arith, f y);
      e0 = λ y. omega (arith, g y);
      ed = λ y. omega (arith, i y);
    }

pub near-two : {c3 c2 c1 b x1 q p : ℕ} → x1 ≡ c1 - 0x40 → Flipped b x1 q → (b / 2 ≡ 0x60 → p ≡ 255) → bit_or q p < 128
    → c3 < 0xe0 → c2 < 0xe0 → c1 < 0xe0 → Near c3 c2 c1 b
near-two {q = q} {p = p} e1 f g h i j k =
    let lp : p < 128 = or-low-r q p h in
    record {
      follows = follows_of f (or-low-l q p h) (λ x y z. omega arith) (λ x. omega arith) (λ x. absurd (omega arith)) (λ x. absurd (omega arith));
      pair = record { short = λ y. omega (arith, g y); e0 = λ y. absurd (omega arith); ed = λ y. absurd (omega arith) };
      f0 = λ y. absurd (omega arith);
    }

pub near-three : {c3 c2 c1 b x1 x2 q p : ℕ} → x1 ≡ c1 - 0x40 → x2 ≡ c2 - 0x60 → Flipped b (bit_or x1 x2) q
    → (p < 128 → Pair c1 b)
    → bit_or q p < 128 → c3 < 0xf0 → c1 < 0xf0 → Near c3 c2 c1 b
near-three {x1 = x1} {x2 = x2} {q = q} {p = p} e1 e2 f g h i j =
    record {
      follows = follows_of f (or-low-l q p h) (λ x y z. or-both x1 x2 (omega arith) (omega arith)) (λ x. or-high-l x1 x2 (omega arith))
          (λ x. or-high-r x1 x2 (omega arith)) (λ x. absurd (omega arith));
      pair = g (or-low-r q p h);
      f0 = λ y. absurd (omega arith);
    }

pub near-four : {c3 c2 c1 b x1 x2 x3 q p y r : ℕ} → x1 ≡ c1 - 0x40 → x2 ≡ c2 - 0x60 → x3 ≡ c3 - 0x70
    → Flipped b (bit_or (bit_or x1 x2) x3) q
    → (p < 128 → Pair c1 b) → y ≡ b - 0x10 → (c1 ≡ 0xf0 → r ≡ 255 - y) → bit_or (bit_or q p) r < 128 → Near c3 c2 c1 b
near-four {x1 = x1} {x2 = x2} {x3 = x3} {q = q} {p = p} {r = r} e1 e2 e3 f g e i h =
    let qp : bit_or q p < 128 = or-low-l (bit_or q p) r h in
    let lr : r < 128 = or-low-r (bit_or q p) r h in
    record {
      follows = follows_of f (or-low-l q p qp) (λ x y z. or-both (bit_or x1 x2) x3 (or-both x1 x2 (omega arith) (omega arith)) (omega arith))
          (λ x. or-high-l (bit_or x1 x2) x3 (or-high-l x1 x2 (omega arith)))
          (λ x. or-high-l (bit_or x1 x2) x3 (or-high-r x1 x2 (omega arith)))
          (λ x. or-high-r (bit_or x1 x2) x3 (omega arith));
      pair = g (or-low-r q p qp);
      f0 = λ z. omega (arith, i z);
    }

pub stands_of : {c3 c2 c1 b q y r z : ℕ} → (q < 128 → Near c3 c2 c1 b) → y ≡ b - 0x10 → (c1 ≡ 0xf4 → r ≡ y)
    → z ≡ b - 0x75 → bit_or (bit_or q r) z < 128 → Stands c3 c2 c1 b
stands_of {q = q} {r = r} {z = z} f e i g h =
    let qr : bit_or q r < 128 = or-low-l (bit_or q r) z h in
    let lr : r < 128 = or-low-r q r qr in
    let lz : z < 128 = or-low-r (bit_or q r) z h in
    record {
      near = f (or-low-l q r qr);
      f4 = λ y. omega (arith, i y);
      most = omega arith;
    }

-- ---- counts
pub trailing-yes : (b : ℕ) → b / 64 ≡ 2 → is_trailing b ≡ 1
unfolding pick
trailing-yes b e = rw (eq-eqb (b / 64) 2 e)

pub trailing-no : (b : ℕ) → (b / 64 ≡ 2 → ⊥) → is_trailing b ≡ 0
unfolding pick
trailing-no b e = rw (ne_eqb (b / 64) 2 e)

pub trailing-byte : (b : ℕ) → bool_byte (eqb (b / 64) 2) ≡ is_trailing b
unfolding pick
trailing-byte b = elim (eqb (b / 64) 2) as (λ t. bool_byte t ≡ pick t 1 0) [ true ↦ refl | false ↦ refl ]

pub trailing-few : (b : ℕ) → is_trailing b ≤ 1
trailing-few b = go (eqb (b / 64) 2) refl
  where
    go : (t : Bool) → eqb (b / 64) 2 ≡ t → is_trailing b ≤ 1
    go true e = omega (arith, trailing-yes b (eqb-true (b / 64) 2 e))
    go false e = omega (arith, trailing-no b (eqb-false (b / 64) 2 e))

pub trailing_in-add : (s : List ℕ) (i a b : ℕ) → trailing_in s i (a + b) ≡ trailing_in s i a + trailing_in s (i + a) b
trailing_in-add s i zero b = let e : zero + b ≡ b = omega arith in let f : i + zero ≡ i = omega arith in rw (e, f) (omega arith)
trailing_in-add s i (suc a) b = let e : suc a + b ≡ suc (a + b) = omega arith in let f : i + suc a ≡ suc i + a = omega arith in rw (e, f) (omega (arith, trailing_in-add s (suc i) a b))

trailing_in-one : (s : List ℕ) (i : ℕ) → trailing_in s i 1 ≡ is_trailing (get_or s i 0)
trailing_in-one s i = omega arith

pub trailing_in-more : (s : List ℕ) (i w : ℕ) → trailing_in s i (w + 1) ≡ trailing_in s i w + is_trailing (get_or s (i + w) 0)
trailing_in-more s i w = omega (arith, trailing_in-add s i w 1, trailing_in-one s (i + w))

pub trailing_in-few : (s : List ℕ) (i w : ℕ) → trailing_in s i w ≤ w
trailing_in-few s i zero = omega arith
trailing_in-few s i (suc w) = omega (arith, trailing_in-few s (suc i) w, trailing-few (get_or s i 0))

-- ---- many bytes
pub standing-none : {s : List ℕ} {a b : ℕ} → b ≤ a → Standing s a b
standing-none h = record { each = λ k x y. absurd (omega arith) }

pub standing-join : {s : List ℕ} {a b c : ℕ} → Standing s a b → Standing s b c → Standing s a c
standing-join {s} {a} {b} {c} l m = record { each = λ k x y. ⊎_elim (λ z. l.each k x z) (λ z. m.each k z y) (cases_lt k b) }

standing-one : {s : List ℕ} {k j : ℕ} → j ≡ k + 1 → StandsAt s k → Standing s k j
standing-one {s} {k} e h = record { each = λ j x y. let f : j ≡ k = omega arith in rw f h }

pub record Testing (s : List ℕ) (from m n k : ℕ) : Type 0 where
  pub all : m < 128 → Standing s from (from + k)
  pub count : n ≡ trailing_in s from k
  pub few : n ≤ k

module _ {s : List ℕ} {from : ℕ} where
  pub testing-more : {m n k w j : ℕ} → Testing s from m n k → (w < 128 → StandsAt s (from + k))
      → j ≡ is_trailing (get_or s (from + k) 0) → Testing s from (bit_or m w) (n + j) (k + 1)
  testing-more {m} {n} {k} {w} t f e =
      record {
        all = λ l. standing-join (t.all (or-low-l m w l)) (standing-one (omega arith) (f (or-low-r m w l)));
        count = omega (arith, t.count, trailing_in-more s from k);
        few = omega (arith, t.few, trailing-few (get_or s (from + k) 0));
      }

  pub testing-done : {m n k : ℕ} → k ≡ 240 → Testing s from m n k
      → Tests s from (record { width = 240; wrong = m; trailing = n })
  testing-done e l = let t = rw e at l in record { stands = t.all; count = t.count; few = t.few }

-- ---- no byte above one

-- a byte and the three before it, none of which is above m
pub record Below (s : List ℕ) (k m : ℕ) : Type 0 where
  pub third : get_or s (k - 3) 0 ≤ m
  pub second : get_or s (k - 2) 0 ≤ m
  pub first : get_or s (k - 1) 0 ≤ m
  pub here : get_or s k 0 ≤ m

-- none of the bytes from the third before a part is above m
abbrev pub MostOf : List ℕ → ℕ → ℕ → ℕ → Type 0
MostOf s from to m = Most (take (to - (from - 3)) (drop (from - 3) s)) 0 (length (take (to - (from - 3)) (drop (from - 3) s))) m

below-at : {s : List ℕ} {from to m k : ℕ} → 3 ≤ from → to ≤ length s → MostOf s from to m → from ≤ k → k < to
    → Below s k m
below-at {s} {from} {to} {m} {k} h i l x y =
    record {
      third = at (k - 3) (omega arith) (omega arith);
      second = at (k - 2) (omega arith) (omega arith);
      first = at (k - 1) (omega arith) (omega arith);
      here = at k (omega arith) (omega arith);
    }
  where
    p : ℕ
    p = from - 3

    part : List ℕ
    part = take (to - p) (drop p s)

    size : length part ≡ to - p
    size = length-take-le (to - p) (drop p s) (omega (arith, length-drop p s))

    at : (j : ℕ) → p ≤ j → j < to → get_or s j 0 ≤ m
    at j g z =
        let e : p + (j - p) ≡ j = omega arith in
        let f : get_or part (j - p) 0 ≡ get_or s j 0 =
        get_or-take (to - p) (drop p s) (j - p) 0 (omega arith) ∙ get_or-drop p s (j - p) 0 ∙ ap (λ q. get_or s q 0) e
        in
        omega (arith, f, l.each (j - p) (omega arith) (omega (arith, size)))

near-at : {s : List ℕ} {k m : ℕ} → Below s k m → m < 0xf4
    → Near (get_or s (k - 3) 0) (get_or s (k - 2) 0) (get_or s (k - 1) 0) (get_or s k 0) → StandsAt s k
near-at b h n = record { stands = record { near = n; f4 = λ e. absurd (omega arith); most = omega arith } }

-- a test that tells all but F4 and above is enough for bytes that are below it
pub tells-of : {P : ℕ → ℕ → ℕ → ℕ → ℕ → Type 0} {s : List ℕ} {from to m : ℕ} → 3 ≤ from → to ≤ length s
    → MostOf s from to m → m < 0xf4
    → ((k r : ℕ) → Below s k m
    → P (get_or s (k - 3) 0) (get_or s (k - 2) 0) (get_or s (k - 1) 0) (get_or s k 0) r → r < 128
    → Near (get_or s (k - 3) 0) (get_or s (k - 2) 0) (get_or s (k - 1) 0) (get_or s k 0))
    → Tells P s from to
tells-of {s = s} {m = m} g i l h f = record { each = λ k r x y p j. let b : Below s k m = below-at g i l x y in near-at b h (f k r b p j) }

-- bytes of ASCII stand as they should
trailing_in-ascii : (s : List ℕ) (i w : ℕ) → ((k : ℕ) → i ≤ k → k < i + w → get_or s k 0 < 128) → trailing_in s i w ≡ 0
trailing_in-ascii s i zero f = refl
trailing_in-ascii s i (suc w) f = omega (arith, trailing_in-ascii s (suc i) w (λ k x y. f k (omega arith) (omega arith)), trailing-no (get_or s i 0) (λ e. omega (arith, f i (omega arith) (omega arith))))

pub ascii-part : {s : List ℕ} {from m : ℕ} → 3 ≤ from → from + 240 ≤ length s → MostOf s from (from + 240) m → m < 0x80
    → Tests s from (record { width = 240; wrong = 0; trailing = 0 })
ascii-part {s} {from} {m} g h l i =
    record {
      stands = λ x. record { each = λ k y z. at k y z };
      count = sym (trailing_in-ascii s from 240 (λ k y z. let b : Below s k m = below-at g h l y z in omega arith));
      few = omega arith;
    }
  where
    at : (k : ℕ) → from ≤ k → k < from + 240 → StandsAt s k
    at k y z =
        let b : Below s k m = below-at g h l y z in
        near-at b (omega arith)
        (record {
          follows = record { first = λ x1 x2 x3 e. omega arith; second = λ a. absurd (omega arith); third = λ a. absurd (omega arith); fourth = λ a. absurd (omega arith) };
          pair = record { short = λ e. omega arith; e0 = λ e. absurd (omega arith); ed = λ e. absurd (omega arith) };
          f0 = λ e. absurd (omega arith);
        })

-- ---- the last r of sixteen
pub kept_high : (x w : ℕ) → x < 256 → w < 256 → 128 ≤ x → bit_and w x < 128 → w < 128
kept_high x w hx hw h k = ⊎_elim (λ z. z) (λ z. absurd (high z)) (cases_lt w 128)
  where
    high : 128 ≤ w → ⊥
    high z =
        let a : w / 128 ≡ 1 = omega arith in
        let b : x / 128 ≡ 1 = omega arith in
        let e : bit_and w x / 128 ≡ 1 = and_shr w x 7 ∙ rw (a, b) in
        omega arith

-- the byte at k of the sixteen, by what is kept of it where it is one of the last r
pub lows-more : {s : List ℕ} {to r m k w : ℕ} → 16 ≤ to → r ≤ 16 → k < 16 → (m < 128 → Ascii s (to - r) (to - 16 + k))
    → (128 ≤ 112 + (r + k) → w < 128 → get_or s (to - 16 + k) 0 < 128) → bit_or m w < 128
    → Ascii s (to - r) (to - 16 + (k + 1))
lows-more {to = to} {r = r} {m = m} {k = k} {w = w} h i j l f y =
    ⊎_elim (λ z. low-before (omega arith)) (λ z. low-join (l (or-low-l m w y)) (low_byte {i = to - 16 + k} (f (omega arith) (or-low-r m w y)) (omega arith)) (omega arith)) (cases_lt (k + r) 16)

pub record Masked (s : List ℕ) (to r m n k : ℕ) : Type 0 where
  pub all : m < 128 → Standing s (to - r) (to - 16 + k)
  pub count : n ≡ trailing_in s (to - r) (r + k - 16)
  pub few : n ≤ k

module _ {s : List ℕ} {to r : ℕ} (h : 19 ≤ to) (i : r ≤ 16) where
  pub masked-more : {m n k w j : ℕ} → k < 16 → Masked s to r m n k
      → (128 ≤ 112 + (r + k) → w < 128 → StandsAt s (to - 16 + k))
      → (128 ≤ 112 + (r + k) → j ≡ is_trailing (get_or s (to - 16 + k) 0)) → (112 + (r + k) < 128 → j ≡ 0)
      → Masked s to r (bit_or m w) (n + j) (k + 1)
  masked-more {m} {n} {k} {w} {j} y l f g e = ⊎_elim before after (cases_lt (k + r) 16)
    where
      before : k + r < 16 → Masked s to r (bit_or m w) (n + j) (k + 1)
      before z =
          let a : r + (k + 1) - 16 ≡ 0 = omega arith in
          let b : r + k - 16 ≡ 0 = omega arith in
          let c : n ≡ 0 = l.count ∙ ap (trailing_in s (to - r)) b in
          let d : j ≡ 0 = e (omega arith) in
          record { all = λ u. standing-none (omega arith); count = rw a (omega arith); few = omega arith }

      after : 16 ≤ k + r → Masked s to r (bit_or m w) (n + j) (k + 1)
      after z =
          let hi : 128 ≤ 112 + (r + k) = omega arith in
          let a : r + (k + 1) - 16 ≡ r + k - 16 + 1 = omega arith in
          let b : to - r + (r + k - 16) ≡ to - 16 + k = omega arith in
          let c : trailing_in s (to - r) (r + k - 16 + 1) ≡ trailing_in s (to - r) (r + k - 16) + is_trailing (get_or s (to - 16 + k) 0) = trailing_in-more s (to - r) (r + k - 16) ∙ ap (λ u. trailing_in s (to - r) (r + k - 16) + is_trailing (get_or s u 0)) b in
          record {
            all = λ u. standing-join (l.all (or-low-l m w u)) (standing-one (omega arith) (f hi (or-low-r m w u)));
            count = rw a (omega (arith, c, g hi, l.count));
            few = omega (arith, g hi, trailing-few (get_or s (to - 16 + k) 0), l.few);
          }

  pub masked-done : {m n k : ℕ} → k ≡ 16 → Masked s to r m n k
      → Tests s (to - r) (record { width = r; wrong = m; trailing = n })
  masked-done {m} {n} {k} e l =
      let b : r + k - 16 ≡ r = omega arith in
      let c : n ≡ trailing_in s (to - r) r = l.count ∙ ap (trailing_in s (to - r)) b in
      record { stands = λ u. record { each = λ p y z. (l.all u).each p y (omega arith) }; count = c; few = omega (arith, trailing_in-few s (to - r) r) }

-- what is found of bytes holds of them wherever the place comes from
pub tests-at : {s : List ℕ} {a b : ℕ} {p : Part} → a ≡ b → Tests s a p → Tests s b p
tests-at e l = rw (sym e) l

pub part-sixteen : {s : List ℕ} {from end : ℕ} {p : Part} → from + 16 ≤ end → Tests s (from + 16 - 16) p → p.width ≡ 16
    → PartOf s from end p
part-sixteen h l e = record { tests = tests-at (omega arith) l; some = omega arith; within = omega arith }
