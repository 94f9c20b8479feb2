-- Words on the tape, where there is an answer.
use Rattle.std.specs.Prelude.{ℕ, List, Ok, Err}
use Rattle.reader.specs.Contract.{Read, Wordy, Kept, WordyPair, KeptPair}
use Rattle.reader.specs.declared.Cursor.{Cursor}
use Rattle.reader.specs.declared.Refusal.{Refusal}
use Rattle.reader.specs.declared.Span.{Span}

-- A number that fits a word, or a refusal.
abbrev pub WordyRead : Read ℕ → Type 0
WordyRead (Ok x) = Wordy x.1 x.0
WordyRead (Err y) = Unit {0}

-- The number's word is written; of a refusal nothing is.
pub data KeptRead : Read ℕ → List ℕ → Read ℕ → List ℕ → Type 0 where
  kept_number : {n : ℕ} {d g : Cursor} {t t' : List ℕ} → Kept d n t g t' → KeptRead (Ok (n, d)) t (Ok (n, g)) t'
  unkept : {x : Refusal} {t : List ℕ} → KeptRead (Err x) t (Err x) t

-- The same of a part of the pack: its start and its length.
abbrev pub SpanRead : Read Span → Type 0
SpanRead (Ok x) = WordyPair x.1 x.0.start x.0.length
SpanRead (Err y) = Unit {0}

pub data KeptSpan : Read Span → List ℕ → Read Span → List ℕ → Type 0 where
  kept_part : {p : Span} {d g : Cursor} {t t' : List ℕ} → KeptPair d p.start p.length t g t' → KeptSpan (Ok (p, d)) t (Ok (p, g)) t'
  unkept_part : {x : Refusal} {t : List ℕ} → KeptSpan (Err x) t (Err x) t
