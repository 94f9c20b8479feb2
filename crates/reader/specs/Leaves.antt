-- The contracts of the leaves, ByteReader's methods: a value and the next cursor, or the refusal. No word is written.
use Rattle.std.specs.Prelude.{ℕ, ◌+◌, ◌*◌, ◌≤◌, ◌<◌, ◌≡◌, List, ℤ, Float, length, Ok, Err}
use Rattle.std.specs.Float.{binary64}
use Rattle.std.specs.Float.Ieee.{of_bits}
use Rattle.std.specs.Int.{w64}
use Rattle.std.proofs.Common.{to_z}
use Rattle.format.specs.Trace.{wrong, unexpected_eof, invalid_utf8, Trace, end, charge, settle, taken, refused}
use Rattle.format.specs.Format.{Value, none, num, text, Rule, Width, byte, half, word, Leaf, fixed, packed, count}
use Rattle.format.specs.Reading.{little, part, room, field, trace_leaf}
use Rattle.format.specs.Layout.{Bytes}
use Rattle.vob24.specs.Utf8.{scan, ill_formed, characters}
use Rattle.reader.specs.Contract.{told, ReadyAt, Step, Read, span_at, text_at, bits_of}
use Rattle.reader.specs.declared.Cursor.{Cursor}
use Rattle.reader.specs.declared.Refusal.{Refusal}
use Rattle.reader.specs.declared.Span.{Span}
use Rattle.reader.specs.declared.Text.{Text}
use Rattle.reader.specs.declared.Bits.{Bits}

-- k bytes from c on: their number, and the cursor past them.
abbrev pub past : ℕ → Cursor → Cursor
past k c = record { place = c.place + k; left = c.left; at = c.at }

-- The same k bytes as they are.
pub record Chunk (k : ℕ) (s : List ℕ) (c : Cursor) (bs : List ℕ) (d : Cursor) : Type 0 where
  pub room : c.place + k ≤ length s
  pub is : bs ≡ part s c.place k
  pub bytes : Bytes (part s c.place k)
  pub next : d ≡ past k c

pub record Fetched (k : ℕ) (s : List ℕ) (c : Cursor) (n : ℕ) (d : Cursor) : Type 0 where
  pub room : c.place + k ≤ length s
  pub is : n ≡ little (part s c.place k)
  pub bytes : Bytes (part s c.place k)
  pub next : d ≡ past k c

-- Too few bytes: 2 at the field's start.
pub record Short (k : ℕ) (s : List ℕ) (c : Cursor) (x : Refusal) : Type 0 where
  pub room : length s < c.place + k
  pub is : told x ≡ refused (wrong unexpected_eof 0) c.place c.left

pub data FetchesBytes (k : ℕ) (s : List ℕ) (c : Cursor) : Read (List ℕ) → Type 0 where
  chunk : {bs : List ℕ} {d : Cursor} → Chunk k s c bs d → FetchesBytes k s c (Ok (bs, d))
  short_chunk : {x : Refusal} → Short k s c x → FetchesBytes k s c (Err x)

pub data Fetches (k : ℕ) (s : List ℕ) (c : Cursor) : Read ℕ → Type 0 where
  there : {n : ℕ} {d : Cursor} → Fetched k s c n d → Fetches k s c (Ok (n, d))
  short : {x : Refusal} → Short k s c x → Fetches k s c (Err x)

-- What follows a count: its entries' bytes are there, then the charge.
unfoldable pub entries_trace : List ℕ → ℕ → ℕ → ℕ → ℕ → ℕ → Trace Value
entries_trace s p n m k z = room (p + n * m) s p (charge k (n * z) p (end (num n) p))

-- What follows a length: the bytes are there, then the charge.
unfoldable pub bytes_trace : List ℕ → ℕ → ℕ → ℕ → Trace Value
bytes_trace s p n k = field n s p (λ cs. charge k n (p + n) (end (text p cs) (p + n)))

-- From where a count may be followed by its questions: no product wraps.
pub record CountAt (s : List ℕ) (d : Cursor) (n m z : ℕ) : Type 0 where
  pub ready : ReadyAt s d
  pub word : n < 4294967296
  pub least : m < 4294967296
  pub size : z < 4294967296

pub data Counted (s : List ℕ) (d : Cursor) (n m k z : ℕ) : Read ℕ → Type 0 where
  enough : {e : Cursor} → settle d.left (entries_trace s d.place n m k z) ≡ taken (num n) e.place e.left
      → e.at ≡ d.at → Counted s d n m k z (Ok (n, e))
  few : {x : Refusal} → settle d.left (entries_trace s d.place n m k z) ≡ told x
      → Counted s d n m k z (Err x)

-- Eight bytes as a signed number or as a float, and their bits.
pub data FetchesSigned (s : List ℕ) (c : Cursor) : Read (Bits ℤ) → Type 0 where
  signed : {i : ℤ} {n : ℕ} {d : Cursor} → Fetched 8 s c n d → i ≡ to_z w64 n → FetchesSigned s c (Ok (bits_of i n, d))
  short_signed : {x : Refusal} → Short 8 s c x → FetchesSigned s c (Err x)

pub data FetchesFloat (s : List ℕ) (c : Cursor) : Read (Bits Float) → Type 0 where
  float : {y : Float} {n : ℕ} {d : Cursor} → Fetched 8 s c n d → y ≡ of_bits binary64 n
      → FetchesFloat s c (Ok (bits_of y n, d))
  short_float : {x : Refusal} → Short 8 s c x → FetchesFloat s c (Err x)

-- The trace of the leaf l at c under c's budget gives the number n, which fits a word, and goes on at d.
pub record Answered (l : Leaf) (s : List ℕ) (c : Cursor) (n : ℕ) (d : Cursor) : Type 0 where
  pub settles : settle c.left (trace_leaf l s c.place) ≡ taken (num n) d.place d.left
  pub word : n < 4294967296
  pub stays : d.at ≡ c.at

-- The trace refuses.
pub record Denied (l : Leaf) (s : List ℕ) (c : Cursor) (x : Refusal) : Type 0 where
  pub settles : settle c.left (trace_leaf l s c.place) ≡ told x

-- The contract of a leaf that answers a number.
pub data Answers (l : Leaf) (s : List ℕ) (c : Cursor) : Read ℕ → Type 0 where
  answered : {n : ℕ} {d : Cursor} → Answered l s c n d → Answers l s c (Ok (n, d))
  denied : {x : Refusal} → Denied l s c x → Answers l s c (Err x)

-- The trace gives the n bytes from p on, and goes on at d.
pub record Spanned (l : Leaf) (s : List ℕ) (c : Cursor) (p n : ℕ) (d : Cursor) : Type 0 where
  pub settles : settle c.left (trace_leaf l s c.place) ≡ taken (text p (part s p n)) d.place d.left
  pub room : p + n ≤ length s
  pub stays : d.at ≡ c.at

-- The contract of a leaf that answers a payload: where it starts, and how long it is.
pub data Spans (l : Leaf) (s : List ℕ) (c : Cursor) : Read Span → Type 0 where
  spanned : {p n : ℕ} {d : Cursor} → Spanned l s c p n d → Spans l s c (Ok (span_at p n, d))
  unspanned : {x : Refusal} → Denied l s c x → Spans l s c (Err x)

-- What follows a length.
pub data Bought (s : List ℕ) (d : Cursor) (n k : ℕ) : Read Span → Type 0 where
  bought : {e : Cursor} → d.place + n ≤ length s
      → settle d.left (bytes_trace s d.place n k) ≡ taken (text d.place (part s d.place n)) e.place e.left
      → e.at ≡ d.at → Bought s d n k (Ok (span_at d.place n, e))
  unbought : {x : Refusal} → settle d.left (bytes_trace s d.place n k) ≡ told x
      → Bought s d n k (Err x)

-- The widths that a word of the tape holds.
pub data Narrow : Width → Type 0 where
  narrow_byte : Narrow byte
  narrow_half : Narrow half
  narrow_word : Narrow word

-- The leaves that stand on the tape as one word.
pub data OneWord : Leaf → Type 0 where
  one_fixed : {w : Width} {r : Rule} → Narrow w → OneWord (fixed w r)
  one_packed : OneWord packed
  one_count : {r : Rule} {m k z : ℕ} → OneWord (count r m k z)

-- A mark of the file: passed or refused.
pub data Marks (l : Leaf) (s : List ℕ) (c : Cursor) : Step → Type 0 where
  marked : {d : Cursor} → settle c.left (trace_leaf l s c.place) ≡ taken none d.place d.left → d.at ≡ c.at
      → Marks l s c (Ok d)
  unmarked : {x : Refusal} → Denied l s c x → Marks l s c (Err x)

-- The contract of a leaf that answers a text: a payload whose bytes are well-formed, and how many characters they are.
pub data Texts (l : Leaf) (s : List ℕ) (c : Cursor) : Read Text → Type 0 where
  written : {p n k : ℕ} {d : Cursor} → Spanned l s c p n d → scan (part s p n) ≡ characters k
      → Texts l s c (Ok (text_at (span_at p n) k, d))
  unwritten : {x : Refusal} → Denied l s c x → Texts l s c (Err x)

-- A payload's bytes as a text, or 6.
pub data Checked (s : List ℕ) : Read Span → Read Text → Type 0 where
  formed : {p : Span} {k : ℕ} {d : Cursor} → scan (part s p.start p.length) ≡ characters k
      → Checked s (Ok (p, d)) (Ok (text_at p k, d))
  malformed : {p : Span} {d : Cursor} {x : Refusal} → scan (part s p.start p.length) ≡ ill_formed
      → told x ≡ refused (wrong invalid_utf8 0) d.place d.left → Checked s (Ok (p, d)) (Err x)
