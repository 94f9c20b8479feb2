-- The laws of the scan: a character byte by byte, bytes of ASCII at once, the characters of a text.
use Rattle.std.proofs.Common.{ℕ, suc, zero, ◌+◌, ◌-◌, ◌≤◌, ◌<◌, ◌≡◌, refl, sym, ap, ◌∙◌, true, false, List, [], ◌∷◌, Some, None, arith, Bool, is_le, nat_cmp, leb, ◌&&◌, add-one, eqb, ltb, ltb-true, ne_eqb, bit_or, length, get_or, take, drop, fold, length-drop, length-take-le, get_or-take, get_or-drop, drop-cons}
use Rattle.std.proofs.lemmas.Bool.Decides.{nat_tests}
use Rattle.format.specs.Trace.{pick}
use Rattle.vob24.specs.Utf8.{in?, bad, want, lead, characters, scan_from, scan}
use Rattle.vob24.proofs.Rows.{lead00}
use Rattle.utf8_parts.specs.Parts.{Ascii}
use Rattle.utf8_parts.proofs.Bytes.{or-low-l, or-low-r, low-before, low-join}
use Rattle.utf8.specs.Answers.{scan_at, Scans, fails, reaches}
use Rattle.utf8.specs.declared.Upto.{Upto}

-- a part by its first byte
pub part-cons : (s : List ℕ) (i to : ℕ) → i < to → to ≤ length s
    → take (to - i) (drop i s) ≡ get_or s i 0 ∷ take (to - (i + 1)) (drop (i + 1) s)
part-cons s i to h k =
    let e : to - i ≡ suc (to - (i + 1)) = omega arith in
    rw (e, add-one i, drop-cons s i 0 (omega arith))

-- what the library's `contains` answers
is-le : (a b : ℕ) → is_le (nat_cmp a b) ≡ leb a b
is-le a b = grind (arith, nat_tests)

abbrev in_range : ℕ → ℕ → ℕ → Bool
in_range lo hi b = is_le (nat_cmp lo b) && is_le (nat_cmp b hi)

in-range : (lo hi b : ℕ) → in_range lo hi b ≡ in? lo hi b
in-range lo hi b = rw (is-le lo b, is-le b hi)

-- ---- a character: the invariant of its loop, with so many bytes to come

-- a character is counted with its last byte
abbrev up_to : ℕ → ℕ → ℕ
up_to n more = pick (eqb more 0) (suc n) n

pub record Charing (s : List ℕ) (to n from more lo hi i : ℕ) : Type 0 where
  pub within : i ≤ to
  pub leads : scan_at s to n from ≡ scan_from (up_to n more) more lo hi (take (to - i) (drop i s))

-- the range is that of a byte to come
pub any-range : (n lo hi : ℕ) (bs : List ℕ) → scan_from n 0 lo hi bs ≡ scan_from n 0 0x80 0xbf bs
any-range n lo hi [] = refl
any-range n lo hi (b ∷ bs) = refl

module _ {s : List ℕ} {to n from : ℕ} (h : from < to) (k : to ≤ length s) where
  pub char-start : {m lo hi more : ℕ} → want m lo hi ≡ lead (get_or s from 0) → more ≡ m
      → Charing s to n from more lo hi (from + 1)
  char-start e i =
      record {
        within = omega arith;
        leads = ap (scan_from n 0 0x80 0xbf) (part-cons s from to h k) ∙ rw (← e, i);
      }

  pub char-bad : bad ≡ lead (get_or s from 0) → Scans s to n from (from + 1) None
  char-bad e = fails (ap (scan_from n 0 0x80 0xbf) (part-cons s from to h k) ∙ rw (← e))

module _ {s : List ℕ} {to n from more lo hi i : ℕ} where
  pub char-short : 0 < more → to ≤ i → Charing s to n from more lo hi i → Scans s to n from (from + 1) None
  unfolding pick
  char-short h k l = let e : to - i ≡ 0 = omega arith in fails (l.leads ∙ rw (e, ne_eqb more 0 (λ z. omega arith)))

  module _ (f : to ≤ length s) (h : 0 < more) (k : i < to) (l : Charing s to n from more lo hi i) where
    pub char-out : false ≡ in_range lo hi (get_or s i 0) → Scans s to n from (from + 1) None
    char-out b =
        let e : in? lo hi (get_or s i 0) ≡ false = sym (b ∙ in-range lo hi (get_or s i 0)) in
        fails (l.leads ∙ ap (scan_from _ more lo hi) (part-cons s i to k f) ∙ rw (ne_eqb more 0 (λ z. omega arith), e))

    pub char-more : {j : ℕ} → j ≡ more - 1 → true ≡ in_range lo hi (get_or s i 0)
        → Charing s to n from j 0x80 0xbf (i + 1)
    unfolding pick
    char-more d b =
        let e : in? lo hi (get_or s i 0) ≡ true = sym (b ∙ in-range lo hi (get_or s i 0)) in
        record {
          within = omega arith;
          leads = l.leads ∙ ap (scan_from _ more lo hi) (part-cons s i to k f) ∙ rw (ne_eqb more 0 (λ z. omega arith), e, d);
        }

  pub char-done : {p : ℕ} → i ≡ p → more ≡ 0 → from + 1 ≤ i → n ≤ from → Charing s to n from more lo hi i
      → Scans s to n from (from + 1) (Some (record { place = p; characters = n + 1 }))
  unfolding pick
  char-done d e g h l = reaches (omega arith) (omega (arith, l.within)) (omega arith) (l.leads ∙ rw (← d, e, add-one n) (any-range (suc n) lo hi (take (to - i) (drop i s))))

-- ---- bytes of ASCII

-- joined below 128, they are
low-fold : (m : ℕ) (s : List ℕ) → fold bit_or m s < 128 → (m < 128) × Ascii s 0 (length s)
low-fold m [] h = (h, low-before (omega arith))
low-fold m (b ∷ s) h =
    let l = low-fold (bit_or m b) s h in
    (or-low-l m b l.0, record { low = λ k x y. at k y l.1 (or-low-r m b l.0) })
  where
    at : (k : ℕ) → k < suc (length s) → Ascii s 0 (length s) → b < 128 → get_or (b ∷ s) k 0 < 128
    at zero y l e = e
    at (suc k) y l e = l.low k (omega arith) (omega arith)

pub low-joined : (s : List ℕ) → ltb (fold bit_or 0 s) 128 ≡ true → Ascii s 0 (length s)
low-joined s e = (low-fold 0 s (ltb-true _ 128 e)).1

pub low-take : {s : List ℕ} (k : ℕ) → k ≤ length s → Ascii (take k s) 0 (length (take k s)) → Ascii s 0 k
low-take {s} k h l = record { low = λ j x y. omega (arith, l.low j x (omega (arith, length-take-le k s h)), get_or-take k s j 0 y) }

pub low-drop : {s : List ℕ} (k m : ℕ) → Ascii (drop k s) 0 m → Ascii s k (k + m)
low-drop {s} k m l =
    record {
      low = λ j x y.
          let e : k + (j - k) ≡ j = omega arith in
          omega (arith, l.low (j - k) (omega arith) (omega arith), get_or-drop k s (j - k) 0, ap (λ i. get_or s i 0) e);
    }

pub low-slice : {s : List ℕ} {i j : ℕ} → i ≤ j → j ≤ length s
    → Ascii (take (j - i) (drop i s)) 0 (length (take (j - i) (drop i s))) → Ascii s i j
low-slice {s} {i} {j} g h l =
    let e : i + (j - i) ≡ j = omega arith in
    rw (← e) (low-drop i (j - i) (low-take (j - i) (omega (arith, length-drop i s)) l))

pub low-halves : {s : List ℕ} (k : ℕ) → k ≤ length s → Ascii (take k s) 0 (length (take k s))
    → Ascii (drop k s) 0 (length (drop k s)) → Ascii s 0 (length s)
low-halves {s} k h a b =
    let e : k + length (drop k s) ≡ length s = omega (arith, length-drop k s) in
    low-join (low-take k h a) (rw e at (low-drop k (length (drop k s)) b)) (omega arith)

-- each byte of ASCII is a character
pub ascii-scan : (s : List ℕ) (to k n from : ℕ) → from + k ≤ to → to ≤ length s → Ascii s from (from + k)
    → scan_at s to n from ≡ scan_at s to (n + k) (from + k)
unfolding pick
ascii-scan s to zero n from h i a = let e : from + 0 ≡ from = omega arith in let f : n + 0 ≡ n = omega arith in rw (e, f)
ascii-scan s to (suc k) n from h i a =
    let e : from + suc k ≡ from + 1 + k = omega arith in
    let f : n + suc k ≡ suc n + k = omega arith in
    ap (scan_from n 0 0x80 0xbf) (part-cons s from to (omega arith) i) ∙ rw (lead00 (get_or s from 0) (omega arith) (omega (arith, a.low from (omega arith) (omega arith))), e, f)
    (ascii-scan s to k (suc n) (from + 1) (omega arith) i (record { low = λ j x y. a.low j (omega arith) (omega arith) }))

-- ---- characters: the invariant of a loop that has come to i with m of them
pub record Going (s : List ℕ) (i m : ℕ) : Type 0 where
  pub within : i ≤ length s
  pub count : m ≤ i
  pub leads : scan s ≡ scan_at s (length s) m i

module _ {s : List ℕ} {i m : ℕ} where
  pub going-reached : {q : Upto} → Scans s (length s) m i (i + 1) (Some q) → Going s i m → Going s q.place q.characters
  going-reached (reaches a b c x) l = record { within = b; count = c; leads = l.leads ∙ x }

  pub going_done : length s ≤ i → Going s i m → characters m ≡ scan s
  unfolding pick
  going_done h l = let e : length s - i ≡ 0 = omega arith in sym (l.leads ∙ rw e)
