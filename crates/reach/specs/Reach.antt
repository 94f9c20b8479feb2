-- The contracts of a reading section by section.
use Rattle.std.specs.Prelude.{ℕ, ◌-◌, ◌≡◌, List, Ok, Err}
use Rattle.format.specs.Format.{Value}
use Rattle.vob24.specs.Settings.{Settings}
use Rattle.vob24.specs.Grammar.{Section, section, pack}
use Rattle.vob24.specs.Fields.{after}
use Rattle.vob24.specs.Cost.{part_of}
use Rattle.reader.specs.Contract.{step_of, Reader, ComesTo, On, Step, Read}
use Rattle.in_place.specs.Walk.{Stands, value_at}
use Rattle.deserialize.specs.Parts.{from_number, count_of}
use Rattle.reach.specs.declared.Reached.{Reached}

-- The sections numbered from a on, up to that numbered b, read from q to d: what is left to read is the sections from
-- there on, and in a pack that is taken they stand there.
pub record Between (set : Settings) (a b : ℕ) (s : List ℕ) (q : Read ℕ) (t : List ℕ) (d : Read ℕ) (t' : List ℕ) : Type 0 where
  pub comes : ComesTo (from_number set (count_of q) a) (from_number set (count_of d) b) s (step_of q) t (step_of d) t'
  pub on : (n : ℕ) (v : Value) (p l : ℕ) → On (from_number set n a) s v p l (step_of q)
      → (m : ℕ) × On (from_number set m b) s (after (b - a) v) p l (step_of d)

-- the answer with a number
abbrev pub with_number : ℕ → Step → Read ℕ
with_number n (Ok c) = Ok (n, c)
with_number n (Err x) = Err x

-- where the answer stands
abbrev pub place_of : Read ℕ → ℕ
place_of (Ok (n, c)) = c.place
place_of (Err x) = x.place

-- The section x was read at p, with this value; that of the inline sources goes by a number of functions.
pub record SectionAt (set : Settings) (x : Section) (s : List ℕ) (p : ℕ) (v : Value) : Type 0 where
  pub functions : ℕ
  pub stands : Stands (section set functions x) s p
  pub value : value_at (section set functions x) s p ≡ v

-- THE contract: the whole pack is read, and where it is taken, the section x stands at the place told.
pub record Reaches (set : Settings) (x : Section) (s : List ℕ) (r : Step) (t : List ℕ) (q : Reached) (t' : List ℕ) : Type 0 where
  pub reader : Reader (pack set) s r t q.end t'
  pub stands : (v : Value) (p l : ℕ) → On (pack set) s v p l r → SectionAt set x s q.section (part_of x v)
