-- Where each byte stands as it should, the scan goes from character to character up to the end.
use Rattle.std.proofs.Common.{ℕ, suc, zero, ◌+◌, ◌-◌, ◌/◌, ◌≤◌, ◌<◌, ◌≡◌, refl, sym, ap, ◌∙◌, List, ◌∷◌, Option, Some, None, ltb, cond, Bool, true, false, ltb-true, ◌⊎◌, ⊎_elim, arith, add-one, length, get_or, take, drop}
use Rattle.std.specs.Bool.{then_some}
use Rattle.std.proofs.lemmas.Bool.{cases_lt}
use Rattle.format.specs.Trace.{pick}
use Rattle.vob24.specs.Utf8.{lead, want, characters, scan_from, scan}
use Rattle.vob24.specs.Ranges.{inside}
use Rattle.vob24.specs.Rows.{Row, r00, r80, rc2, re0, re1, red, ree, rf0, rf1, rf4, rf5}
use Rattle.vob24.proofs.Rows.{row}
use Rattle.utf8_parts.specs.Parts.{Ascii, Stands, Standing, is_trailing, trailing_in, Tests, characters_of}
use Rattle.utf8_parts.specs.declared.Part.{Part}
use Rattle.utf8_parts.proofs.Bytes.{low-join, trailing-yes, trailing-no, trailing_in-add, standing-join, tests-at}
use Rattle.utf8.specs.Answers.{scan_at, Starts, Scans, reaches, Tries, TriesAt}
use Rattle.utf8.specs.declared.Upto.{Upto}
use Rattle.utf8.proofs.Laws.{part-cons, any-range, ascii-scan}

-- ---- one character
module _ (s : List ℕ) (to n i : ℕ) {lo hi : ℕ} (k : to ≤ length s) where
  one_on : i < to → lead (get_or s i 0) ≡ want 0 lo hi → scan_at s to n i ≡ scan_at s to (n + 1) (i + 1)
  unfolding pick
  one_on h e = ap (scan_from n 0 0x80 0xbf) (part-cons s i to h k) ∙ rw (e, add-one n) (any-range (suc n) lo hi (take (to - (i + 1)) (drop (i + 1) s)))

  two-on : i + 2 ≤ to → lead (get_or s i 0) ≡ want 1 lo hi → lo ≤ get_or s (i + 1) 0 → get_or s (i + 1) 0 ≤ hi
      → scan_at s to n i ≡ scan_at s to (n + 1) (i + 2)
  unfolding pick
  two-on h e a b =
      let f : i + 1 + 1 ≡ i + 2 = omega arith in
      let bytes : take (to - i) (drop i s) ≡ get_or s i 0 ∷ get_or s (i + 1) 0 ∷ take (to - (i + 2)) (drop (i + 2) s) =
      part-cons s i to (omega arith) k ∙ ap (λ r. get_or s i 0 ∷ r) (part-cons s (i + 1) to (omega arith) k ∙ rw f)
      in
      ap (scan_from n 0 0x80 0xbf) bytes ∙ rw (e, inside lo hi (get_or s (i + 1) 0) a b, add-one n)

  three-on : i + 3 ≤ to → lead (get_or s i 0) ≡ want 2 lo hi → lo ≤ get_or s (i + 1) 0 → get_or s (i + 1) 0 ≤ hi
      → get_or s (i + 2) 0 / 64 ≡ 2 → scan_at s to n i ≡ scan_at s to (n + 1) (i + 3)
  unfolding pick
  three-on h e a b y =
      let f : i + 1 + 1 ≡ i + 2 = omega arith in
      let g : i + 2 + 1 ≡ i + 3 = omega arith in
      let bytes : take (to - i) (drop i s) ≡ get_or s i 0 ∷ get_or s (i + 1) 0 ∷ get_or s (i + 2) 0 ∷ take (to - (i + 3)) (drop (i + 3) s) =
      part-cons s i to (omega arith) k
      ∙ ap (λ r. get_or s i 0 ∷ r) (part-cons s (i + 1) to (omega arith) k ∙ rw f)
      ∙ ap (λ r. get_or s i 0 ∷ get_or s (i + 1) 0 ∷ r) (part-cons s (i + 2) to (omega arith) k ∙ rw g)
      in
      ap (scan_from n 0 0x80 0xbf) bytes ∙ rw (e, inside lo hi (get_or s (i + 1) 0) a b, inside 0x80 0xbf (get_or s (i + 2) 0) (omega arith) (omega arith), add-one n)

  four-on : i + 4 ≤ to → lead (get_or s i 0) ≡ want 3 lo hi → lo ≤ get_or s (i + 1) 0 → get_or s (i + 1) 0 ≤ hi
      → get_or s (i + 2) 0 / 64 ≡ 2 → get_or s (i + 3) 0 / 64 ≡ 2 → scan_at s to n i ≡ scan_at s to (n + 1) (i + 4)
  unfolding pick
  four-on h e a b y z =
      let f : i + 1 + 1 ≡ i + 2 = omega arith in
      let g : i + 2 + 1 ≡ i + 3 = omega arith in
      let j : i + 3 + 1 ≡ i + 4 = omega arith in
      let bytes : take (to - i) (drop i s) ≡ get_or s i 0 ∷ get_or s (i + 1) 0 ∷ get_or s (i + 2) 0 ∷ get_or s (i + 3) 0 ∷ take (to - (i + 4)) (drop (i + 4) s) =
      part-cons s i to (omega arith) k
      ∙ ap (λ r. get_or s i 0 ∷ r) (part-cons s (i + 1) to (omega arith) k ∙ rw f)
      ∙ ap (λ r. get_or s i 0 ∷ get_or s (i + 1) 0 ∷ r) (part-cons s (i + 2) to (omega arith) k ∙ rw g)
      ∙ ap (λ r. get_or s i 0 ∷ get_or s (i + 1) 0 ∷ get_or s (i + 2) 0 ∷ r) (part-cons s (i + 3) to (omega arith) k ∙ rw j)
      in
      ap (scan_from n 0 0x80 0xbf) bytes
      ∙ rw (e, inside lo hi (get_or s (i + 1) 0) a b, inside 0x80 0xbf (get_or s (i + 2) 0) (omega arith) (omega arith), inside 0x80 0xbf (get_or s (i + 3) 0) (omega arith) (omega arith), add-one n)

-- ---- places
trailing_in-cons : (s : List ℕ) (i to : ℕ) → i < to
    → trailing_in s i (to - i) ≡ is_trailing (get_or s i 0) + trailing_in s (i + 1) (to - (i + 1))
trailing_in-cons s i to h = let e : to - i ≡ suc (to - (i + 1)) = omega arith in rw (e, add-one i)

starts-of : {s : List ℕ} {j : ℕ} (p1 p2 p3 : ℕ) → p1 ≡ j - 1 → p2 ≡ j - 2 → p3 ≡ j - 3 → get_or s p1 0 < 0xc0
    → get_or s p2 0 < 0xe0 → get_or s p3 0 < 0xf0 → Starts s j
starts-of p1 p2 p3 e1 e2 e3 a b c = record { one = rw (sym e1) a; two = rw (sym e2) b; three = rw (sym e3) c }

stands_at : {s : List ℕ} {a b : ℕ} → Standing s a b → (k p1 p2 p3 : ℕ) → k - 1 ≡ p1 → k - 2 ≡ p2 → k - 3 ≡ p3 → a ≤ k
    → k < b → Stands (get_or s p3 0) (get_or s p2 0) (get_or s p1 0) (get_or s k 0)
stands_at {s} l k p1 p2 p3 e1 e2 e3 x y = rw (sym e1, sym e2, sym e3) (l.each k x y).stands

module _ {s : List ℕ} {i to : ℕ} (h : i < to) (l : Starts s to) where
  ends-two : 0xc0 ≤ get_or s i 0 → i + 2 ≤ to
  ends-two x = ⊎_elim (λ z. omega arith) (λ z. absurd (let e : to - 1 ≡ i = omega arith in omega (arith, ap (λ j. get_or s j 0) e, l.one))) (cases_lt (i + 1) to)

  ends-three : 0xe0 ≤ get_or s i 0 → i + 3 ≤ to
  ends-three x = ⊎_elim (λ z. omega arith) (λ z. absurd (let e : to - 2 ≡ i = omega (arith, ends-two (omega arith)) in omega (arith, ap (λ j. get_or s j 0) e, l.two))) (cases_lt (i + 2) to)

  ends-four : 0xf0 ≤ get_or s i 0 → i + 4 ≤ to
  ends-four x = ⊎_elim (λ z. omega arith) (λ z. absurd (let e : to - 3 ≡ i = omega (arith, ends-three (omega arith)) in omega (arith, ap (λ j. get_or s j 0) e, l.three))) (cases_lt (i + 3) to)

-- ---- character by character
step : {s : List ℕ} {to i : ℕ} (n m : ℕ) → 3 ≤ i → i < to → to ≤ length s → Starts s i → Starts s to → Standing s i to
    → n + (to - i) ≡ m + trailing_in s i (to - i)
    → ((j : ℕ) → i < j → j ≤ to → Starts s j → n + 1 + (to - j) ≡ m + trailing_in s j (to - j) → scan_at s to (n + 1) j ≡ characters m)
    → scan_at s to n i ≡ characters m
step {s} {to} {i} n m h g k p q l e next = at (row c0)
  where
    c0 : ℕ
    c0 = get_or s i 0

    here : Stands (get_or s (i - 3) 0) (get_or s (i - 2) 0) (get_or s (i - 1) 0) c0
    here = (l.each i (omega arith) g).stands

    is-first : c0 / 64 ≡ 2 → ⊥
    is-first = here.near.follows.first p.one p.two p.three

    in0 : trailing_in s i (to - i) ≡ trailing_in s (i + 1) (to - (i + 1))
    in0 = omega (arith, trailing_in-cons s i to g, trailing-no c0 is-first)

    -- the second byte of a sequence
    there2 : 0xc0 ≤ c0 → i + 2 ≤ to
    there2 x = ends-two g q x

    second : 0xc0 ≤ c0 → Stands (get_or s (i - 2) 0) (get_or s (i - 1) 0) c0 (get_or s (i + 1) 0)
    second x = stands_at l (i + 1) i (i - 1) (i - 2) (omega arith) (omega arith) (omega arith) (omega arith) (omega (arith, there2 x))

    in1 : 0xc0 ≤ c0 → get_or s (i + 1) 0 / 64 ≡ 2
    in1 x = (second x).near.follows.second x

    count1 : 0xc0 ≤ c0 → trailing_in s (i + 1) (to - (i + 1)) ≡ 1 + trailing_in s (i + 2) (to - (i + 2))
    count1 x = let u : i + 1 + 1 ≡ i + 2 = omega arith in omega (arith, ap (λ j. trailing_in s j (to - j)) u, trailing_in-cons s (i + 1) to (omega (arith, there2 x)), trailing-yes (get_or s (i + 1) 0) (in1 x))

    there3 : 0xe0 ≤ c0 → i + 3 ≤ to
    there3 x = ends-three g q x

    third : 0xe0 ≤ c0 → Stands (get_or s (i - 1) 0) c0 (get_or s (i + 1) 0) (get_or s (i + 2) 0)
    third x = stands_at l (i + 2) (i + 1) i (i - 1) (omega arith) (omega arith) (omega arith) (omega arith) (omega (arith, there3 x))

    in2 : 0xe0 ≤ c0 → get_or s (i + 2) 0 / 64 ≡ 2
    in2 x = (third x).near.follows.third x

    count2 : 0xe0 ≤ c0 → trailing_in s (i + 2) (to - (i + 2)) ≡ 1 + trailing_in s (i + 3) (to - (i + 3))
    count2 x = let u : i + 2 + 1 ≡ i + 3 = omega arith in omega (arith, ap (λ j. trailing_in s j (to - j)) u, trailing_in-cons s (i + 2) to (omega (arith, there3 x)), trailing-yes (get_or s (i + 2) 0) (in2 x))

    there4 : 0xf0 ≤ c0 → i + 4 ≤ to
    there4 x = ends-four g q x

    fourth : 0xf0 ≤ c0 → Stands c0 (get_or s (i + 1) 0) (get_or s (i + 2) 0) (get_or s (i + 3) 0)
    fourth x = stands_at l (i + 3) (i + 2) (i + 1) i (omega arith) (omega arith) (omega arith) (omega arith) (omega (arith, there4 x))

    in3 : 0xf0 ≤ c0 → get_or s (i + 3) 0 / 64 ≡ 2
    in3 x = (fourth x).near.follows.fourth x

    count3 : 0xf0 ≤ c0 → trailing_in s (i + 3) (to - (i + 3)) ≡ 1 + trailing_in s (i + 4) (to - (i + 4))
    count3 x = let u : i + 3 + 1 ≡ i + 4 = omega arith in omega (arith, ap (λ j. trailing_in s j (to - j)) u, trailing_in-cons s (i + 3) to (omega (arith, there4 x)), trailing-yes (get_or s (i + 3) 0) (in3 x))

    go1 : {lo hi : ℕ} → c0 < 0x80 → lead c0 ≡ want 0 lo hi → scan_at s to n i ≡ characters m
    go1 x r =
        one_on s to n i k g r
        ∙ next (i + 1) (omega arith) (omega arith)
        (starts-of i (i - 1) (i - 2) (omega arith) (omega arith) (omega arith) (omega arith) (omega (arith, p.one)) (omega (arith, p.two))) (omega (arith, in0))

    go2 : {lo hi : ℕ} → 0xc0 ≤ c0 → c0 < 0xe0 → lead c0 ≡ want 1 lo hi → lo ≤ get_or s (i + 1) 0 → get_or s (i + 1) 0 ≤ hi
        → scan_at s to n i ≡ characters m
    go2 x y r u v =
        two-on s to n i k (there2 x) r u v
        ∙ next (i + 2) (omega arith) (there2 x)
        (starts-of (i + 1) i (i - 1) (omega arith) (omega arith) (omega arith) (omega (arith, in1 x)) y (omega (arith, p.one))) (omega (arith, in0, count1 x, there2 x))

    go3 : {lo hi : ℕ} → 0xe0 ≤ c0 → c0 < 0xf0 → lead c0 ≡ want 2 lo hi → lo ≤ get_or s (i + 1) 0 → get_or s (i + 1) 0 ≤ hi
        → scan_at s to n i ≡ characters m
    go3 x y r u v =
        let x1 : 0xc0 ≤ c0 = omega arith in
        three-on s to n i k (there3 x) r u v (in2 x)
        ∙ next (i + 3) (omega arith) (there3 x)
        (starts-of (i + 2) (i + 1) i (omega arith) (omega arith) (omega arith) (omega (arith, in2 x)) (omega (arith, in1 x1)) y) (omega (arith, in0, count1 x1, count2 x, there3 x))

    go4 : {lo hi : ℕ} → 0xf0 ≤ c0 → lead c0 ≡ want 3 lo hi → lo ≤ get_or s (i + 1) 0 → get_or s (i + 1) 0 ≤ hi
        → scan_at s to n i ≡ characters m
    go4 x r u v =
        let x1 : 0xc0 ≤ c0 = omega arith in
        let x2 : 0xe0 ≤ c0 = omega arith in
        four-on s to n i k (there4 x) r u v (in2 x2) (in3 x)
        ∙ next (i + 4) (omega arith) (there4 x)
        (starts-of (i + 3) (i + 2) (i + 1) (omega arith) (omega arith) (omega arith) (omega (arith, in3 x)) (omega (arith, in2 x2)) (omega (arith, in1 x1))) (omega (arith, in0, count1 x1, count2 x2, count3 x, there4 x))

    at : Row c0 → scan_at s to n i ≡ characters m
    at (r00 u v r) = go1 (omega arith) r
    at (r80 u v r) = absurd (go80 (cases_lt c0 0xc0))
      where
        go80 : (c0 < 0xc0) ⊎ (0xc0 ≤ c0) → ⊥
        go80 = ⊎_elim (λ z. is-first (omega arith)) (λ z. here.near.pair.short (omega arith))
    at (rc2 u v r) = go2 (omega arith) (omega arith) r (omega (arith, in1 (omega arith))) (omega (arith, in1 (omega arith)))
    at (re0 u v r) = go3 (omega arith) (omega arith) r ((second (omega arith)).near.pair.e0 (omega arith)) (omega (arith, in1 (omega arith)))
    at (re1 u v r) = go3 (omega arith) (omega arith) r (omega (arith, in1 (omega arith))) (omega (arith, in1 (omega arith)))
    at (red u v r) = go3 (omega arith) (omega arith) r (omega (arith, in1 (omega arith))) (omega (arith, (second (omega arith)).near.pair.ed (omega arith)))
    at (ree u v r) = go3 (omega arith) (omega arith) r (omega (arith, in1 (omega arith))) (omega (arith, in1 (omega arith)))
    at (rf0 u v r) = go4 (omega arith) r ((second (omega arith)).near.f0 (omega arith)) (omega (arith, in1 (omega arith)))
    at (rf1 u v r) = go4 (omega arith) r (omega (arith, in1 (omega arith))) (omega (arith, in1 (omega arith)))
    at (rf4 u v r) = go4 (omega arith) r (omega (arith, in1 (omega arith))) (omega (arith, (second (omega arith)).f4 (omega arith)))
    at (rf5 u r) = absurd (omega (arith, here.most))

ended : (s : List ℕ) (to i n m : ℕ) → to ≤ i → n + (to - i) ≡ m + trailing_in s i (to - i)
    → scan_at s to n i ≡ characters m
unfolding pick
ended s to i n m g e =
    let z : to - i ≡ 0 = omega arith in
    let y : trailing_in s i (to - i) ≡ 0 = ap (trailing_in s i) z in
    let x : n ≡ m = omega arith in
    rw (z, x)

runs : (f : ℕ) {s : List ℕ} {to i : ℕ} (n m : ℕ) → to ≤ i + f → 3 ≤ i → i ≤ to → to ≤ length s → Starts s i
    → Starts s to → Standing s i to → n + (to - i) ≡ m + trailing_in s i (to - i) → scan_at s to n i ≡ characters m
runs zero {s} {to} {i} n m a h b k p q l e = ended s to i n m (omega arith) e
runs (suc f) {s} {to} {i} n m a h b k p q l e =
    ⊎_elim (λ g. step n m h g k p q l e (λ j x y o z. runs f (n + 1) m (omega arith) (omega arith) y k o q (record { each = λ u v w. l.each u (omega arith) w }) z)) (λ g. ended s to i n m g e) (cases_lt i to)

-- bytes that stand as they should, by how many of them are trailing bytes
pub place-stands : {s : List ℕ} {to i : ℕ} (n m : ℕ) → 3 ≤ i → i ≤ to → to ≤ length s → Starts s i → Starts s to
    → Standing s i to → n + (to - i) ≡ m + trailing_in s i (to - i) → scan_at s to n i ≡ characters m
place-stands {s} {to} {i} n m h b k p q l e = runs to n m (omega arith) h b k p q l e

text-stands : {s : List ℕ} {start size : ℕ} (m : ℕ) → 3 ≤ start → start + size ≤ length s → Starts s start
    → Starts s (start + size) → Standing s start (start + size) → m + trailing_in s start size ≡ size
    → scan (take size (drop start s)) ≡ characters m
text-stands {s} {start} {size} m h k p q l e =
    let z : start + size - start ≡ size = omega arith in
    let y : trailing_in s start (start + size - start) ≡ trailing_in s start size = ap (trailing_in s start) z in
    ap (λ j. scan (take j (drop start s))) (sym z) ∙ place-stands 0 m h (omega arith) k p q l (omega arith)

-- ---- texts in one part, and in several

-- a text of ASCII
pub text-low : {s : List ℕ} {start size : ℕ} → start + size ≤ length s → Ascii s start (start + size)
    → scan (take size (drop start s)) ≡ characters size
text-low {s} {start} {size} h l =
    let z : start + size - start ≡ size = omega arith in
    ap (λ j. scan (take j (drop start s))) (sym z)
    ∙ ascii-scan s (start + size) size 0 start (omega arith) h l
    ∙ ended s (start + size) (start + size) (0 + size) size (omega arith) (let y : start + size - (start + size) ≡ 0 = omega arith in omega (arith, ap (trailing_in s (start + size)) y))

pub text-sixteen : {s : List ℕ} (start size : ℕ) → start + size ≤ length s
    → Ascii s (start + size - size) (start + size) → scan (take size (drop start s)) ≡ characters size
text-sixteen start size h l = text-low h (record { low = λ k x y. l.low k (omega arith) y })

pub text-none : (s : List ℕ) (start : ℕ) {size : ℕ} → size ≡ 0 → scan (take size (drop start s)) ≡ characters 0
unfolding pick
text-none s start e = rw e

-- the first 16 bytes and the last, which meet
pub text-ends : {s : List ℕ} {start size : ℕ} → start + size ≤ length s → size ≤ 32 → Ascii s start (start + 16)
    → Ascii s (start + size - 16) (start + size) → scan (take size (drop start s)) ≡ characters size
text-ends h i a b = text-low h (low-join a b (omega arith))

-- an answer that is given only where a test holds
pub tries-if : (t : List ℕ) {n : ℕ} (b : Bool) → (b ≡ true → scan t ≡ characters n) → Tries t (then_some b n)
tries-if t true h = h refl
tries-if t false h = tt

-- what is counted of a part
pub record Counts (p : Part) (n : ℕ) : Type 0 where
  pub low : p.wrong < 128
  pub is : n ≡ p.width - p.trailing

pub counts-of : {p : Part} {n : ℕ} → Some n ≡ characters_of p → Counts p n
counts-of {p} {n} e = go (ltb p.wrong 128) refl e
  where
    go : (t : Bool) → ltb p.wrong 128 ≡ t → Some n ≡ cond t (Some (p.width - p.trailing)) None → Counts p n
    go true f g = record { low = ltb-true p.wrong 128 f; is = cc }
    go false f g = absurd cc

pub text-part : {s : List ℕ} {start size : ℕ} {p : Part} (r : Option ℕ) → r ≡ characters_of p → 3 ≤ start
    → start + size ≤ length s → Starts s start → Starts s (start + size) → Tests s (start + size - size) p
    → p.width ≡ size → Tries (take size (drop start s)) r
text-part None z h k a b l e = tt
text-part {s} {start} {size} {p} (Some n) z h k a b l e =
    let q : Counts p n = counts-of z in
    let t : Tests s start p = tests-at (omega arith) l in
    let c : trailing_in s start p.width ≡ trailing_in s start size = ap (trailing_in s start) e in
    text-stands n h k a b (record { each = λ j x y. (t.stands q.low).each j x (omega arith) }) (omega (arith, t.count, t.few, q.is))

-- ---- part by part, from start with n characters: the invariant of a loop that has come to at, with m
pub record Parting (s : List ℕ) (start end n at m : ℕ) : Type 0 where
  pub past : start ≤ at
  pub within : at ≤ end
  pub stands : Standing s start at
  pub count : m + trailing_in s start (at - start) ≡ n + (at - start)

module _ {s : List ℕ} {start end n at m : ℕ} {p : Part} (l : Parting s start end n at m) (t : Tests s at p) where
  joined : trailing_in s start (at + p.width - start) ≡ trailing_in s start (at - start) + p.trailing
  joined =
      let d : at + p.width - start ≡ at - start + p.width = omega (arith, l.past) in
      let u : start + (at - start) ≡ at = omega (arith, l.past) in
      omega (arith, ap (trailing_in s start) d, trailing_in-add s start (at - start) p.width, ap (λ j. trailing_in s j p.width) u, t.count)

  pub parting-on : {c : ℕ} → at + p.width ≤ end → Some c ≡ characters_of p
      → Parting s start end n (at + p.width) (m + c)
  parting-on {c} h z =
      let q : Counts p c = counts-of z in
      record {
        past = omega (arith, l.past);
        within = h;
        stands = standing-join l.stands (t.stands q.low);
        count = omega (arith, l.count, l.past, t.few, joined, q.is);
      }

-- what is left, with the bytes before it
pub parting-last : {s : List ℕ} {start end n at m c : ℕ} {p : Part} → 3 ≤ start → end ≤ length s → Starts s start
    → Starts s end → Parting s start end n at m → Tests s (end - (end - at)) p → p.width ≡ end - at
    → Some c ≡ characters_of p → scan_at s end n start ≡ characters (m + c)
parting-last {s} {start} {end} {n} {at} {m} {c} {p} h k a b l t i z =
    let u : Tests s at p = tests-at (omega (arith, l.within)) t in
    let o : at + p.width ≤ end = omega (arith, l.within) in
    let v : Parting s start end n (at + p.width) (m + c) = parting-on l u o z in
    let f : at + p.width ≡ end = omega (arith, l.within) in
    let e : trailing_in s start (at + p.width - start) ≡ trailing_in s start (end - start) = ap (λ j. trailing_in s start (j - start)) f in
    place-stands n (m + c) h (omega (arith, l.past, l.within)) k a b (record { each = λ j x y. v.stands.each j x (omega arith) }) (omega (arith, v.count))

-- ---- from a later place
pub record Latering (s : List ℕ) (start end i n : ℕ) : Type 0 where
  pub past : start ≤ i
  pub within : i ≤ end
  pub few : n ≤ i
  pub leads : scan_at s end 0 start ≡ scan_at s end n i

module _ {s : List ℕ} {start end i n : ℕ} where
  pub later-on : {q : Upto} → Scans s end n i (i + 1) (Some q) → Latering s start end i n
      → Latering s start end q.place q.characters
  later-on (reaches a b c x) l = record { past = omega (arith, l.past); within = b; few = c; leads = l.leads ∙ x }

  pub later-told : (r : Option ℕ) → Latering s start end i n → TriesAt s end n i r → TriesAt s end 0 start r
  later-told None l h = h
  later-told (Some m) l h = l.leads ∙ h
