-- The contracts of names.
use Rattle.std.specs.Prelude.{ℕ, ◌+◌, ◌≤◌, ◌≡◌, List, [], ◌∷◌, map, Bool, length, Ok, Err}
use Rattle.format.specs.Trace.{refused}
use Rattle.format.specs.Format.{Value, Ask, pay, Format}
use Rattle.format.specs.Reading.{little, part}
use Rattle.vob24.specs.Settings.{Settings}
use Rattle.vob24.specs.Questions.{named}
use Rattle.vob24.specs.Grammar.{method}
use Rattle.reader.specs.Numbers.{context_number}
use Rattle.reader.specs.Contract.{refusal, told, Ready, Asks, Step}
use Rattle.reader.specs.declared.kinds.Kind.{Kind}
use Rattle.reader.specs.declared.Cursor.{Cursor}
use Rattle.reader.specs.declared.Refusal.{Refusal}
use Rattle.in_place.specs.declared.Item.{Item}
use Rattle.in_place.specs.declared.Item.TheVariants.{StructField}
use Rattle.in_place.specs.declared.Table.{Table}
use Rattle.in_place.specs.declared.Table.TheVariants.{Fields}
use Rattle.in_place.specs.Walk.{Stands, value_at, items_at}
use Rattle.in_place.specs.Items.{format_of, name_of, text_at}
use Rattle.in_place.specs.Tables.{format_in}
use Rattle.in_place.specs.Contract.{over, Items}
use Rattle.reader.specs.Accepted.{AsksAccepted}
use Rattle.unique_names.specs.declared.Charge.{Charge}
use Rattle.unique_names.specs.Asking.{charges, price, wrong_in, table_asks, list_asks, seen_at, method_asks}

-- In a second pass the questions at r₁ on the entries of a list that was read at r are not refused.
pub record ListAccepted (again : Bool) (f : Format) (l : List Value → List Ask) (s : List ℕ) (r r₁ : Step) : Type 0 where
  pub never : (c d : Cursor) → r ≡ Ok c → r₁ ≡ Ok d
      → AsksAccepted again (l (items_at f (little (part s c.place 4)) s (c.place + 4))) d

-- The charge, at c, of the key of the item at p.
pub record Charged (t : Table) (s : List ℕ) (p : ℕ) (c : Cursor) (q : Step) : Type 0 where
  pub asks : Asks (charges t (value_at (format_in t) s p)) c q

-- The refusal, at c, of the text at p: its start and its length.
pub record Repeated (s : List ℕ) (p : ℕ) (c : Cursor) (kind : Kind) (context : ℕ) (q : Step) : Type 0 where
  pub is : q ≡ Err (refusal kind context (p + 4) (length (text_at s p)) c)

-- The refusal, at c, of the item at p, which repeats another.
pub record RepeatTold (t : Table) (s : List ℕ) (p : ℕ) (c : Cursor) (q : Step) : Type 0 where
  pub refusal : Refusal
  pub is : q ≡ Err refusal
  pub tells : told refusal ≡ refused (wrong_in t (value_at (format_in t) s p)) c.place c.left

-- How many of n items have a name other than "_".
pub record Named (i : Item) (s : List ℕ) (from n q : ℕ) : Type 0 where
  pub is : q ≡ length (named (map (name_of i) (items_at (format_of i) n s from)))
  pub most : q ≤ n

-- What the keys of n items cost.
pub record Cost (t : Table) (s : List ℕ) (from n q : ℕ) : Type 0 where
  pub is : q ≡ price t (items_at (format_in t) n s from)

-- The charge of a table of n items, and what their keys cost.
pub record ChargedFor (set : Settings) (t : Table) (s : List ℕ) (from n : ℕ) (q : Charge) : Type 0 where
  pub asks : list_asks t set (items_at (format_in t) n s from) ≡ pay (context_number q.context) q.size ∷ over (table_asks t) [] (items_at (format_in t) n s from)
  pub cost : Cost t s from n q.keys

-- The fields' names other than "_": how many, and their bytes.
pub record Tallied (s : List ℕ) (from n names bytes : ℕ) : Type 0 where
  pub named : Named StructField s from n names
  pub cost : Cost Fields s from n bytes

-- A named type's method was read from r to r₁, after n others.
pub record MethodBehind (s : List ℕ) (from n : ℕ) (r r₁ : Step) : Type 0 where
  pub items : Items method n s from
  pub ready : Ready s r₁
  pub comes : (c d : Cursor) → r ≡ Ok c → r₁ ≡ Ok d → Stands method s c.place

pub record MethodAsked (s : List ℕ) (from n : ℕ) (r r₁ q : Step) : Type 0 where
  pub stays : (x : Refusal) → r₁ ≡ Err x → q ≡ r₁
  pub asks : (c d : Cursor) → r ≡ Ok c → r₁ ≡ Ok d
      → Asks (method_asks (seen_at n s from) (value_at method s c.place)) d q
