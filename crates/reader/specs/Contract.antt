-- The contracts of readers: what their answers say of a format's trace.
use Rattle.std.specs.Prelude.{ℕ, ◌+◌, ◌-◌, ◌≤◌, ◌<◌, ◌≡◌, List, [], ◌∷◌, length, set, leb, Result, Ok, Err}
use Rattle.std.proofs.lemmas.List.Edits.{sets}
use Rattle.format.specs.Trace.{Wrong, Settled, refused, taken, settle, pick, Ends}
use Rattle.format.specs.Format.{Value, none, text, Ask, Format}
use Rattle.format.specs.Reading.{part, trace_ask, trace}
use Rattle.format.specs.Record.{words}
use Rattle.vob24.specs.Settings.{max_pack_bytes}
use Rattle.reader.specs.Numbers.{kind_number}
use Rattle.reader.specs.declared.kinds.Kind.{Kind}
use Rattle.reader.specs.declared.kinds.Kind.TheVariants.{AllocationBudgetExceeded}
use Rattle.reader.specs.declared.Cursor.{Cursor}
use Rattle.reader.specs.declared.Refusal.{Refusal}
use Rattle.reader.specs.declared.Span.{Span}
use Rattle.reader.specs.declared.Text.{Text}
use Rattle.reader.specs.declared.Bits.{Bits}

-- the answer so far
abbrev pub Step : Type 0
Step = Result Cursor Refusal

-- a value and the cursor past it, or the refusal
abbrev pub Read : Type 0 → Type 0
Read X = Result (X × Cursor) Refusal

-- The refusal at a cursor: its kind, context and details.
abbrev pub refusal : Kind → ℕ → ℕ → ℕ → Cursor → Refusal
refusal k x a b c = record { kind = k; context = x; detail1 = a; detail2 = b; place = c.place; left = c.left }

-- Document 01's numbers of a refusal.
abbrev pub wrong_of : Refusal → Wrong
wrong_of x = record { number = kind_number x.kind; context = x.context; detail1 = x.detail1; detail2 = x.detail2 }

-- What a refusal says of a reading.
abbrev pub told : Refusal → Settled Value
told x = refused (wrong_of x) x.place x.left

abbrev pub span_at : ℕ → ℕ → Span
span_at p n = record { start = p; length = n }

abbrev pub text_at : Span → ℕ → Text
text_at p k = record { span = p; characters = k }

abbrev pub bits_of : {X : Type 0} → X → ℕ → Bits X
bits_of x n = record { value = x; bits = n }

-- the answer without its value
abbrev pub step_of : {X : Type 0} → Read X → Step
step_of (Ok x) = Ok x.1
step_of (Err x) = Err x

-- A cursor by its numbers: a reader that is called often takes these, in registers.
abbrev pub cursor_at : ℕ → ℕ → ℕ → Cursor
cursor_at p l i = record { place = p; left = l; at = i }

-- A cursor from which sums cannot wrap: what a reader requires.
pub record ReadyAt (s : List ℕ) (c : Cursor) : Type 0 where
  pub small : length s ≤ max_pack_bytes
  pub within : c.place ≤ length s
  pub behind : c.at ≤ c.place

abbrev pub Ready : List ℕ → Step → Type 0
Ready s (Ok c) = ReadyAt s c
Ready s (Err x) = Unit {0}

-- The reading of f at c under c's budget gives v and goes on at c', and its words are on the tape.
pub record Takes (f : Format) (s : List ℕ) (c : Cursor) (t : List ℕ) (v : Value) (c' : Cursor) (t' : List ℕ) : Type 0 where
  pub settles : settle c.left (trace f s c.place) ≡ taken v c'.place c'.left
  pub moves : c'.at ≡ c.at + length (words f v)
  pub writes : t' ≡ sets t c.at (words f v)

pub record Refuses (f : Format) (s : List ℕ) (c : Cursor) (x : Refusal) : Type 0 where
  pub settles : settle c.left (trace f s c.place) ≡ told x

-- A reader of f, called with the answer so far: what is refused stays so.
pub data Reads (f : Format) (s : List ℕ) : Step → List ℕ → Step → List ℕ → Type 0 where
  takes : {v : Value} {c c' : Cursor} {t t' : List ℕ} → Takes f s c t v c' t' → Reads f s (Ok c) t (Ok c') t'
  refuses : {c : Cursor} {x : Refusal} {t t' : List ℕ} → Refuses f s c x → Reads f s (Ok c) t (Err x) t'
  skips : {x : Refusal} {t t' : List ℕ} → Reads f s (Err x) t (Err x) t'

-- THE contract of a reader of f.
pub record Reader (f : Format) (s : List ℕ) (r : Step) (t : List ℕ) (r' : Step) (t' : List ℕ) : Type 0 where
  pub reads : Reads f s r t r' t'
  pub ready : Ready s r'

-- THE contract of a reader of some parts of f: the reading of f at r comes down to that of g at r'.
pub record ComesTo (f g : Format) (s : List ℕ) (r : Step) (t : List ℕ) (r' : Step) (t' : List ℕ) : Type 0 where
  pub rest : {q : Step} {t'' : List ℕ} → Reads g s r' t' q t'' → Reads f s r t q t''
  pub ready : Ready s r'

-- In a reading of f that takes v and ends with q and l: this is where the answer so far stands.
pub record On (f : Format) (s : List ℕ) (v : Value) (q l : ℕ) (r : Step) : Type 0 where
  pub cursor : Cursor
  pub is : r ≡ Ok cursor
  pub settles : settle cursor.left (trace f s cursor.place) ≡ taken v q l

-- The contract of a reader at a cursor that also returns a number of the value that it read.
pub data ReadsOf (f : Format) (of : Value → ℕ) (s : List ℕ) (c : Cursor) (t : List ℕ) : Read ℕ → List ℕ → Type 0 where
  got : {v : Value} {n : ℕ} {c' : Cursor} {t' : List ℕ} → n ≡ of v → Takes f s c t v c' t'
      → ReadsOf f of s c t (Ok (n, c')) t'
  lost : {x : Refusal} {t' : List ℕ} → Refuses f s c x → ReadsOf f of s c t (Err x) t'

pub record NumberOf (f : Format) (of : Value → ℕ) (s : List ℕ) (c : Cursor) (t : List ℕ) (q : Read ℕ) (t' : List ℕ) : Type 0 where
  pub reads : ReadsOf f of s c t q t'
  pub ready : Ready s (step_of q)

-- The contract of a reader at a cursor that also returns the start and the length of the text or payload that it
-- read.
pub data ReadsSpan (f : Format) (s : List ℕ) (c : Cursor) (t : List ℕ) : Read Span → List ℕ → Type 0 where
  got_span : {p n : ℕ} {c' : Cursor} {t' : List ℕ} → p + n ≤ length s → Takes f s c t (text p (part s p n)) c' t'
      → ReadsSpan f s c t (Ok (span_at p n, c')) t'
  lost_span : {x : Refusal} {t' : List ℕ} → Refuses f s c x → ReadsSpan f s c t (Err x) t'

pub record SpanOf (f : Format) (s : List ℕ) (c : Cursor) (t : List ℕ) (q : Read Span) (t' : List ℕ) : Type 0 where
  pub reads : ReadsSpan f s c t q t'
  pub ready : Ready s (step_of q)

-- A number that fits a word of the tape, and a place on it.
pub record Wordy (c : Cursor) (n : ℕ) : Type 0 where
  pub word : n < 4294967296
  pub place : c.at < 4294967296

-- One word written at a cursor.
pub record Kept (c : Cursor) (n : ℕ) (t : List ℕ) (d : Cursor) (t' : List ℕ) : Type 0 where
  pub is : d ≡ record { place = c.place; left = c.left; at = c.at + 1 }
  pub writes : t' ≡ set t c.at n

-- Two words.
pub record WordyPair (c : Cursor) (a b : ℕ) : Type 0 where
  pub low : a < 4294967296
  pub high : b < 4294967296
  pub place : c.at + 1 < 4294967296

pub record KeptPair (c : Cursor) (a b : ℕ) (t : List ℕ) (d : Cursor) (t' : List ℕ) : Type 0 where
  pub is : d ≡ record { place = c.place; left = c.left; at = c.at + 2 }
  pub writes : t' ≡ sets t c.at (a ∷ b ∷ [])

-- A charge at a cursor.
abbrev pub paid : ℕ → ℕ → Cursor → Step
paid k n c = pick (leb n c.left) (Ok (record { place = c.place; left = c.left - n; at = c.at })) (Err (refusal AllocationBudgetExceeded k n c.left c))

pub record Paid (k n : ℕ) (c : Cursor) (r : Step) : Type 0 where
  pub is : r ≡ paid k n c

-- Questions with no bytes, at a cursor.
pub data Asks (l : List Ask) (c : Cursor) : Step → Type 0 where
  passes : {d : Cursor} → settle c.left (trace_ask l c.place) ≡ taken none d.place d.left → d.at ≡ c.at
      → Asks l c (Ok d)
  denies : {x : Refusal} → settle c.left (trace_ask l c.place) ≡ told x
      → Asks l c (Err x)

-- What a part that went from r to r₁ has left behind in the bytes.
pub record Behind (f : Format) (s : List ℕ) (r r₁ : Step) : Type 0 where
  pub before : Ready s r
  pub ready : Ready s r₁
  pub comes : (c d : Cursor) → r ≡ Ok c → r₁ ≡ Ok d → (v : Value) × Ends (trace f s c.place) v d.place

-- The answer after such a part, of questions on its value.
pub record Follows (f : Format) (l : Value → List Ask) (s : List ℕ) (r r₁ q : Step) : Type 0 where
  pub stays : (x : Refusal) → r₁ ≡ Err x → q ≡ r₁
  pub asks : (c d : Cursor) (v : Value) → r ≡ Ok c → r₁ ≡ Ok d → Ends (trace f s c.place) v d.place
      → Asks (l v) d q
