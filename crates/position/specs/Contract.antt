-- The contract of the lent section call: the answer, the tape and the position at exit are the outcome that vob24
-- defines.
use Rattle.std.specs.Prelude.{ℕ, ◌≡◌, List}
use Rattle.vob24.specs.Settings.{settings}
use Rattle.vob24.specs.Grammar.{Section}
use Rattle.vob24.specs.Calls as vob
use Rattle.calls.specs.Contract.{Answer, answer_of}
use Rattle.position.specs.Moving.{position_of}
use Rattle.position.specs.declared.Position.{Position}

-- THE contract of a section call that is lent its position; n is the number of functions that bounds the inline
-- sources.
pub record LentCall (n : ℕ) (x : Section) (s : List ℕ) (at : Position) (t : List ℕ) (q : Answer) (at' : Position) (t' : List ℕ) : Type 0 where
  pub is : vob.lent_outcome settings n x s (position_of at) t ≡ record { answer = answer_of q; tape = t'; position = position_of at' }
