-- The contracts of the public calls: the answer and the tape at exit are the outcome that vob24 defines.
use Rattle.std.specs.Prelude.{ℕ, ◌-◌, ◌≤◌, ◌≡◌, List, Result, Ok, Err, length, leb, eqb}
use Rattle.format.specs.Trace.{pick}
use Rattle.vob24.specs.Settings.{Settings, max_pack_bytes}
use Rattle.vob24.specs.Grammar.{Section}
use Rattle.vob24.specs.Calls as vob
use Rattle.reader.specs.Contract.{refusal, wrong_of, Ready, Step}
use Rattle.reader.specs.declared.kinds.Kind.TheVariants.{InputTooLarge, UnexpectedEof, TrailingBytes, NoRoom}
use Rattle.reader.specs.declared.Cursor.{Cursor}
use Rattle.reader.specs.declared.Refusal.{Refusal}
use Rattle.calls.specs.declared.Taken as call

-- What a public call answers: what it has taken, or the refusal. Document 01's number and values for each case.
abbrev pub Answer : Type 0
Answer = Result call.Taken Refusal

abbrev pub answer_of : Answer → vob.Answer
answer_of (Ok x) = vob.Taken x.words x.bytes x.charged x.left
answer_of (Err x) = vob.Refused (wrong_of x) x.place x.left

-- THE contract of the call on a whole pack.
pub record ReadCall (set : Settings) (s : List ℕ) (b : ℕ) (t : List ℕ) (q : Answer) (t' : List ℕ) : Type 0 where
  pub is : vob.read_outcome set s b t ≡ record { answer = answer_of q; tape = t' }

-- THE contract of a section call; n is the number of functions that bounds the inline sources.
pub record SectionCall (set : Settings) (n : ℕ) (x : Section) (s : List ℕ) (p b : ℕ) (t : List ℕ) (q : Answer) (t' : List ℕ) : Type 0 where
  pub is : vob.section_outcome set n x s p b t ≡ record { answer = answer_of q; tape = t' }

-- where a call starts
abbrev pub from : ℕ → ℕ → Cursor
from p b = record { place = p; left = b; at = 0 }

-- Question 1, then a place past the end.
unfoldable pub opened : List ℕ → ℕ → ℕ → Step
opened s p b =
    pick (leb (length s) max_pack_bytes)
    (pick (leb p (length s)) (Ok (from p b)) (Err (refusal UnexpectedEof 0 0 0 (from p b))))
    (Err (refusal InputTooLarge 0 (length s) max_pack_bytes (from p b)))

pub record Opens (s : List ℕ) (p b : ℕ) (r : Step) : Type 0 where
  pub is : r ≡ opened s p b
  pub ready : Ready s r

-- Nothing after the end.
abbrev pub ended : ℕ → Step → Step
ended n (Ok c) = pick (eqb c.place n) (Ok c) (Err (refusal TrailingBytes 0 (n - c.place) 0 c))
ended n (Err x) = Err x

-- The answer after a first pass, from the length of the tape.
abbrev pub closed : ℕ → ℕ → ℕ → Step → Answer
closed p b room (Ok c) =
    pick (leb c.at room)
    (Ok (record { words = c.at; bytes = c.place - p; charged = b - c.left; left = c.left }))
    (Err (refusal NoRoom 0 c.at room c))
closed p b room (Err x) = Err x

pub record Ends (n : ℕ) (r q : Step) : Type 0 where
  pub is : q ≡ ended n r

pub record Closes (p b room : ℕ) (r : Step) (q : Answer) : Type 0 where
  pub is : q ≡ closed p b room r

-- A pass gives back no byte and no budget.
pub record Since (p b : ℕ) (r : Step) : Type 0 where
  pub place : (c : Cursor) → r ≡ Ok c → p ≤ c.place
  pub left : (c : Cursor) → r ≡ Ok c → c.left ≤ b

-- It stays within n bytes.
pub record StaysWithin (n : ℕ) (r : Step) : Type 0 where
  pub place : (c : Cursor) → r ≡ Ok c → c.place ≤ n
