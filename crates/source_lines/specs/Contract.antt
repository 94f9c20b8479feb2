-- The contracts of the call, and of its walk over the locations.
use Rattle.std.specs.Prelude.{ℕ, ◌+◌, ◌≤◌, ◌≡◌, List, Option, Some, None, Result, Ok, Err, map, length}
use Rattle.format.specs.Format.{Format, number}
use Rattle.format.specs.Reading.{little, part}
use Rattle.vob24.specs.Settings as of
use Rattle.vob24.specs.Settings.{Settings}
use Rattle.vob24.specs.Fields.{location_of}
use Rattle.vob24.specs.Grammar.{list, location}
use Rattle.source.specs.Source as source
use Rattle.reader.specs.Contract.{wrong_of}
use Rattle.reader.specs.declared.Cursor.{Cursor}
use Rattle.reader.specs.declared.Refusal.{Refusal}
use Rattle.in_place.specs.Contract.{Placed, Items}
use Rattle.in_place.specs.Walk.{items_at, last_at}
use Rattle.source_lines.specs.declared.Best.{Best}

-- Document 02's values for each case of the answer.
abbrev pub answer_of : Result (Option ℕ) Refusal → source.Answer
answer_of (Ok (Some i)) = source.Entry i
answer_of (Ok None) = source.None
answer_of (Err x) = source.Not (wrong_of x) x.place x.left

-- THE contract of the call.
pub record SourceCall (set : Settings) (s : List ℕ) (function address : ℕ) (q : Result (Option ℕ) Refusal) : Type 0 where
  pub is : answer_of q ≡ source.source_outcome set s function address

-- one function's locations
abbrev pub location_list : Settings → Format
location_list set = list set of.DebugLoc location

abbrev pub best_of : Option Best → source.Best
best_of None = source.none
best_of (Some b) = source.at b.entry b.pc

-- The best of n locations from p on.
pub record BestIs (s : List ℕ) (p n address : ℕ) (q : Option Best) : Type 0 where
  pub is : best_of q ≡ source.best address (map (λ v. number (location_of v).pc) (items_at location n s p))

-- The list that stands at q, after k others from p on.
pub record ListIs (set : Settings) (s : List ℕ) (p k q : ℕ) : Type 0 where
  pub is : q ≡ last_at (location_list set) k s p
  pub placed : Placed (location_list set) s q

-- A count at p, and the lists of locations that it says.
pub record FunctionsAt (set : Settings) (s : List ℕ) (p : ℕ) : Type 0 where
  pub count : p + 4 ≤ length s
  pub lists : Items (location_list set) (little (part s p 4)) s (p + 4)

-- What is answered of them, where the reading ended at c.
pub record LineFrom (set : Settings) (s : List ℕ) (p function address : ℕ) (c : Cursor) (q : Result (Option ℕ) Refusal) : Type 0 where
  pub is : answer_of q ≡ source.line_in function address (items_at (location_list set) (little (part s p 4)) s (p + 4)) c.place c.left
