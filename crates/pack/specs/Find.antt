-- The contracts of the lookup in a pack that a whole reading has taken.
use Rattle.std.specs.Prelude.{ℕ, ◌≡◌, List, Result}
use Rattle.format.specs.Format.{Value, entries}
use Rattle.vob24.specs.Settings.{Settings}
use Rattle.vob24.specs.Grammar.{pack}
use Rattle.vob24.specs.Cost.{part_of}
use Rattle.vob24.specs.Grammar as vob
use Rattle.vob24.specs.Calls.{look_in}
use Rattle.reader.specs.Contract.{Ready, On, Step}
use Rattle.reader.specs.declared.Cursor.{Cursor}
use Rattle.reader.specs.declared.Refusal.{Refusal}
use Rattle.reader.specs.declared.Span.{Span}
use Rattle.lookup.specs.Look.{found_of, Room}

-- A pack that the reading from r takes, ending at c.
pub record Whole (set : Settings) (s : List ℕ) (r : Step) (c : Cursor) : Type 0 where
  pub value : Value
  pub on : On (pack set) s value c.place c.left r
  pub ready : Ready s r

-- The lookup in it.
pub record Located (set : Settings) (s : List ℕ) (r : Step) (name : List ℕ) (c : Cursor) (q : Result Span Refusal) : Type 0 where
  pub is : (v : Value) → On (pack set) s v c.place c.left r
      → found_of q ≡ look_in name (entries (part_of vob.artifacts v)) c.place c.left
  pub room : Room s q
