-- What is known of a reading that ends: leaf by leaf, then over any format.
use Rattle.std.specs.Prelude.{ℕ, ◌+◌, ◌-◌, ◌*◌, ◌≤◌, ◌≡◌, List, Bool, not, length, T}
use Rattle.format.specs.Trace.{Trace, total, Ends}
use Rattle.format.specs.Format.{Value, none, num, text, pair, first, second, Leaf, fixed, mark, packed, string, payload, count, ask, Format, seq}
use Rattle.format.specs.Reading.{little, part, same, size, trace_packed, trace}
use Rattle.format.specs.Record.{words}
use Rattle.format.specs.Layout.{clear}

abbrev pub Passed : Leaf → List ℕ → ℕ → Value → ℕ → Type 0
Passed (fixed w r) s p v q = (p + size w ≤ length s) × T (r.test (little (part s p (size w)))) × (v ≡ num (little (part s p (size w)))) × (q ≡ p + size w)
Passed (mark m y) s p v q = (p + length m ≤ length s) × T (same (part s p (length m)) m) × (v ≡ none) × (q ≡ p + length m)
Passed packed s p v q = (n : ℕ) × Ends (trace_packed 4 0 s p) n q × (v ≡ num n)
Passed (string r c ok) s p v q =
    (p + 4 + little (part s p 4) ≤ length s) × T (r.test (little (part s p 4))) × T (ok (part s (p + 4) (little (part s p 4)))) × (v ≡ text (p + 4) (part s (p + 4) (little (part s p 4)))) × (q ≡ p + 4 + little (part s p 4))
Passed (payload r c) s p v q =
    (p + 4 + little (part s p 4) ≤ length s) × T (r.test (little (part s p 4))) × (v ≡ text (p + 4) (part s (p + 4) (little (part s p 4)))) × (q ≡ p + 4 + little (part s p 4))
Passed (count r m c z) s p v q =
    (p + 4 + little (part s p 4) * m ≤ length s) × T (r.test (little (part s p 4))) × (v ≡ num (little (part s p 4))) × (q ≡ p + 4)
Passed (ask l) s p v q = T (clear l) × (v ≡ none) × (q ≡ p)

-- the two parts of a sequence that ends
pub record Both (f : Format) (g : Value → Format) (s : List ℕ) (p : ℕ) (v : Value) (q : ℕ) : Type 0 where
  pub mid : ℕ
  pub fore : Ends (trace f s p) (first v) mid
  pub back : Ends (trace (g (first v)) s mid) (second v) q
  pub whole : v ≡ pair (first v) (second v)
  pub sums : total (trace (seq f g) s p) ≡ total (trace f s p) + total (trace (g (first v)) s mid)

-- a step of a packed number: its last byte, or one more
pub data Stepped (d : Bool) (m b p : ℕ) (t : Trace ℕ) (n q : ℕ) : Type 0 where
  last : T d → m ≤ b → n ≡ b → q ≡ p → Stepped d m b p t n q
  more : T (not d) → (x : ℕ) → Ends t x q → n ≡ b - 128 + 128 * x → Stepped d m b p t n q

-- No more words than bytes: a property of a format, that of its parts.
pub record Slim (f : Format) : Type 0 where
  pub most : (s : List ℕ) (p : ℕ) {v : Value} {q : ℕ} → Ends (trace f s p) v q → p + length (words f v) ≤ q
