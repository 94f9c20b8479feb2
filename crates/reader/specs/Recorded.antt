-- Readers that answer a record of the item that they read.
use Rattle.std.specs.Prelude.{ℕ, ◌+◌, ◌≡◌, List, Ok, Err}
use Rattle.format.specs.Trace.{Ends}
use Rattle.format.specs.Format.{Value, Format, counted}
use Rattle.format.specs.Reading.{trace}
use Rattle.reader.specs.Contract.{Reader, Step, Read}
use Rattle.reader.specs.declared.Cursor.{Cursor}
use Rattle.reader.specs.declared.Refusal.{Refusal}
use Rattle.reader.specs.declared.ListAt.{ListAt}

-- No list.
abbrev pub no_list : ListAt
no_list = record { start = 0; count = 0 }

-- The list whose count stands at p.
abbrev pub list_at : ℕ → Value → ListAt
list_at p v = record { start = p + 4; count = counted v }

-- The contract of a reader of f at a cursor that answers the record x, which is `of` the place and the value; where it
-- is refused, nothing is said of x.
pub record Recorded {R : Type 0} (f : Format) (of : ℕ → Value → R) (s : List ℕ) (c : Cursor) (t : List ℕ) (q : Step) (x : R) (t' : List ℕ) : Type 0 where
  pub reader : Reader f s (Ok c) t q t'
  pub is : (d : Cursor) (v : Value) → q ≡ Ok d → Ends (trace f s c.place) v d.place → x ≡ of c.place v

-- THE contract of a reader of f at a cursor that answers such a record.
pub data RecordOf {R : Type 0} (f : Format) (of : ℕ → Value → R) (s : List ℕ) (c : Cursor) (t : List ℕ) : Read R → List ℕ → Type 0 where
  recorded : {x : R} {d : Cursor} {t' : List ℕ} → Recorded f of s c t (Ok d) x t' → RecordOf f of s c t (Ok (x, d)) t'
  unrecorded : {y : Refusal} {t' : List ℕ} → Reader f s (Ok c) t (Err y) t' → RecordOf f of s c t (Err y) t'
