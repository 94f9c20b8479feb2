-- What a second pass knows.
use Rattle.std.specs.Prelude.{ℕ, ◌≡◌, List, Bool, true, Ok, Err}
use Rattle.format.specs.Format.{Ask, Format}
use Rattle.reader.specs.Contract.{Refuses, Asks, Step}
use Rattle.reader.specs.declared.Cursor.{Cursor}
use Rattle.reader.specs.declared.Refusal.{Refusal}

-- The answer so far stands at a cursor, from which the reading of f is not refused.
pub record Goes (f : Format) (s : List ℕ) (r : Step) : Type 0 where
  pub cursor : Cursor
  pub is : r ≡ Ok cursor
  pub never : (x : Refusal) → Refuses f s cursor x → ⊥

-- THE requirement of a reader of f that may leave out a question in a second pass.
pub record Accepted (again : Bool) (f : Format) (s : List ℕ) (r : Step) : Type 0 where
  pub is : again ≡ true → Goes f s r

-- The same of questions with no bytes, at a cursor.
pub record AsksAccepted (again : Bool) (l : List Ask) (c : Cursor) : Type 0 where
  pub never : again ≡ true → (x : Refusal) → Asks l c (Err x) → ⊥
