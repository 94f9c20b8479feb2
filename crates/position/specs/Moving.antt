-- Where an answer moves a position.
use Rattle.std.specs.Prelude.{◌+◌, ◌<◌, ◌^◌, ◌≡◌, Ok}
use Rattle.vob24.specs.Calls as vob
use Rattle.calls.specs.declared.Taken.{Taken}
use Rattle.calls.specs.Contract.{Answer, answer_of}
use Rattle.position.specs.declared.Position.{Position}

-- Document 01's place and budget.
abbrev pub position_of : Position → vob.Position
position_of at = record { place = at.place; budget = at.budget }

-- Where a position stands after an answer.
pub record Moves (at : Position) (q : Answer) (at' : Position) : Type 0 where
  pub is : position_of at' ≡ vob.moved (position_of at) (answer_of q)

-- The bytes taken end at a 64-bit place.
pub record Fits (at : Position) (q : Answer) : Type 0 where
  pub fits : {x : Taken} → q ≡ Ok x → at.place + x.bytes < 2 ^ 64
