-- The contracts of the lookup, and of its walk over the artifacts.
use Rattle.std.specs.Prelude.{ℕ, ◌+◌, ◌≤◌, ◌≡◌, List, Bool, Result, Ok, Err, length}
use Rattle.format.specs.Reading.{little, part, same}
use Rattle.vob24.specs.Settings.{Settings}
use Rattle.vob24.specs.Grammar.{artifact}
use Rattle.vob24.specs.Calls as vob
use Rattle.reader.specs.Contract.{wrong_of}
use Rattle.reader.specs.declared.Cursor.{Cursor}
use Rattle.reader.specs.declared.Refusal.{Refusal}
use Rattle.reader.specs.declared.Span.{Span}
use Rattle.in_place.specs.Contract.{Items}
use Rattle.in_place.specs.Walk.{items_at}

-- Document 01's values for each case of the companion's answer.
abbrev pub found_of : Result Span Refusal → vob.Found
found_of (Ok x) = vob.At x.start x.length
found_of (Err x) = vob.Not (wrong_of x) x.place x.left

pub record IsName (s : List ℕ) (p n : ℕ) (name : List ℕ) (q : Bool) : Type 0 where
  pub is : q ≡ same (part s p n) name

-- What was found stands in the pack.
pub record Room (s : List ℕ) (q : Result Span Refusal) : Type 0 where
  pub fits : (x : Span) → q ≡ Ok x → x.start + x.length ≤ length s

-- THE contract of the companion: start and length, or the refusal.
pub record LocateCall (set : Settings) (s name : List ℕ) (q : Result Span Refusal) : Type 0 where
  pub is : found_of q ≡ vob.find_outcome set s name
  pub room : Room s q

-- THE contract of the lookup: the payload as a part of the pack, or an empty part.
pub record FindCall (set : Settings) (s name part' : List ℕ) : Type 0 where
  pub is : part' ≡ vob.found_part s (vob.find_outcome set s name)

-- The first of n artifacts from p on that has the name.
pub record Looks (set : Settings) (s : List ℕ) (p n : ℕ) (name : List ℕ) (c : Cursor) (q : Result Span Refusal) : Type 0 where
  pub is : found_of q ≡ vob.look_in name (items_at (artifact set) n s p) c.place c.left
  pub room : Room s q

-- A count at p, and the artifacts that it says.
pub record ArtifactsAt (set : Settings) (s : List ℕ) (p : ℕ) : Type 0 where
  pub count : p + 4 ≤ length s
  pub items : Items (artifact set) (little (part s p 4)) s (p + 4)

-- The first of them that has the name.
pub record LooksFrom (set : Settings) (s : List ℕ) (p : ℕ) (name : List ℕ) (c : Cursor) (q : Result Span Refusal) : Type 0 where
  pub looks : Looks set s (p + 4) (little (part s p 4)) name c q
