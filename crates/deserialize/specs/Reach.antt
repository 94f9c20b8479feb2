-- Reading on to a section of a pack that is taken.
use Rattle.std.specs.Prelude.{ℕ, ◌+◌, ◌≤◌, ◌≡◌, List, length, Ok}
use Rattle.format.specs.Format.{Value, Format}
use Rattle.format.specs.Reading.{little, part}
use Rattle.vob24.specs.Settings.{Settings}
use Rattle.vob24.specs.Grammar.{pack}
use Rattle.vob24.specs.Fields.{after}
use Rattle.reader.specs.Contract.{Ready, On, Step}
use Rattle.reader.specs.declared.Cursor.{Cursor}
use Rattle.in_place.specs.Contract.{Items}
use Rattle.in_place.specs.Walk.{items_at}
use Rattle.deserialize.specs.Parts.{from_number, functions_before}

-- In a pack that the reading from r takes, r' stands at the section numbered i. Magic and version are no part of the
-- sections' value.
pub record Reaches (set : Settings) (i : ℕ) (s : List ℕ) (r r' : Step) : Type 0 where
  pub on : (v : Value) (q l : ℕ) → On (pack set) s v q l r
      → On (from_number set (functions_before i (after 2 v)) i) s (after i (after 2 v)) q l r'
  pub ready : Ready s r'

-- Where r stands there is a list of f, with these entries: a count, and as many items behind it.
-- Not the `ListStands` of in_place's proofs, which says that a format reads as a counted list at a place.
pub record ListStands (f : Format) (vs : List Value) (s : List ℕ) (r : Step) : Type 0 where
  pub cursor : Cursor
  pub is : r ≡ Ok cursor
  pub count : cursor.place + 4 ≤ length s
  pub items : Items f (little (part s cursor.place 4)) s (cursor.place + 4)
  pub entries : vs ≡ items_at f (little (part s cursor.place 4)) s (cursor.place + 4)
