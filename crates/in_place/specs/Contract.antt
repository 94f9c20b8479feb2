-- The contracts of items.
use Rattle.std.specs.Prelude.{ℕ, ◌+◌, ◌≤◌, ◌<◌, ◌≡◌, List, [], ◌∷◌, map, ◌++◌, Bool, false, length, Ok, Err}
use Rattle.format.specs.Trace.{pick}
use Rattle.format.specs.Format.{Value, Ask, Format}
use Rattle.format.specs.Reading.{little, part, same}
use Rattle.vob24.specs.Settings.{max_pack_bytes}
use Rattle.vob24.specs.Questions.{among_identities}
use Rattle.folding.specs.Bytes.{fold_bytes}
use Rattle.reader.specs.Contract.{Ready, Asks, Step}
use Rattle.reader.specs.declared.Cursor.{Cursor}
use Rattle.reader.specs.declared.Refusal.{Refusal}
use Rattle.in_place.specs.declared.Table.{Table}
use Rattle.in_place.specs.Walk.{Stands, AllStand, value_at, next_at, items_at, last_at}
use Rattle.in_place.specs.Items.{text_at, end_of, package_at}
use Rattle.in_place.specs.Tables.{format_in, key_of, key_text, package_text}

-- A text stands at p, in a pack that is not too long.
pub record TextAt (s : List ℕ) (p : ℕ) : Type 0 where
  pub small : length s ≤ max_pack_bytes
  pub room : end_of s p ≤ length s

pub record WordIs (s : List ℕ) (p q : ℕ) : Type 0 where
  pub is : q ≡ little (part s p 4)
  pub below : q < 4294967296

pub record EndIs (s : List ℕ) (p q : ℕ) : Type 0 where
  pub is : q ≡ end_of s p

pub record SameText (s : List ℕ) (a b : ℕ) (q : Bool) : Type 0 where
  pub is : q ≡ same (text_at s a) (text_at s b)

pub record SameFolded (s : List ℕ) (a b : ℕ) (q : Bool) : Type 0 where
  pub is : q ≡ same (fold_bytes (text_at s a)) (fold_bytes (text_at s b))

pub record SameName (t : Table) (s : List ℕ) (a b : ℕ) (q : Bool) : Type 0 where
  pub is : q ≡ same (key_text t s a) (key_text t s b)

pub record BlankIs (s : List ℕ) (p : ℕ) (q : Bool) : Type 0 where
  pub is : q ≡ same (text_at s p) (95 ∷ [])

-- f was read at p, in a pack that is not too long.
pub record Placed (f : Format) (s : List ℕ) (p : ℕ) : Type 0 where
  pub small : length s ≤ max_pack_bytes
  pub stands : Stands f s p

-- q is the place past it.
pub record Past (f : Format) (s : List ℕ) (p q : ℕ) : Type 0 where
  pub is : q ≡ next_at f s p

pub record PackageIs (s : List ℕ) (p q : ℕ) : Type 0 where
  pub is : q ≡ package_at s p

-- n items of f were read from p on.
pub record Items (f : Format) (n : ℕ) (s : List ℕ) (p : ℕ) : Type 0 where
  pub small : length s ≤ max_pack_bytes
  pub all : AllStand f n s p

-- q is the place past them.
pub record PastItems (f : Format) (n : ℕ) (s : List ℕ) (p q : ℕ) : Type 0 where
  pub is : q ≡ last_at f n s p

-- An item at p after n others.
pub record After (f : Format) (s : List ℕ) (from n p : ℕ) : Type 0 where
  pub before : Items f n s from
  pub here : Placed f s p

pub record TwoPlaced (f : Format) (s : List ℕ) (a b : ℕ) : Type 0 where
  pub fore : Placed f s a
  pub back : Placed f s b

-- Keys, and whether they stand among those of the first n items.
pub record SamePackage (t : Table) (s : List ℕ) (a b : ℕ) (q : Bool) : Type 0 where
  pub is : q ≡ same (package_text t s a) (package_text t s b)

pub record SameKey (t : Table) (s : List ℕ) (a b : ℕ) (q : Bool) : Type 0 where
  pub is : q ≡ pick (same (key_text t s a) (key_text t s b)) (same (package_text t s a) (package_text t s b)) false

pub record Seen (t : Table) (s : List ℕ) (from n p : ℕ) (q : Bool) : Type 0 where
  pub is : q ≡ among_identities (key_of t (value_at (format_in t) s p)) (map (key_of t) (items_at (format_in t) n s from))

-- The questions on items one by one, each by the items before it.
unfoldable pub over : (List Value → Value → List Ask) → List Value → List Value → List Ask
over ask before [] = []
over ask before (v ∷ vs) = ask before v ++ over ask (before ++ (v ∷ [])) vs

-- A list of f was read at r, and the reading has come to r₁.
pub record ListBehind (f : Format) (s : List ℕ) (r r₁ : Step) : Type 0 where
  pub before : Ready s r
  pub ready : Ready s r₁
  pub comes : (c d : Cursor) → r ≡ Ok c → r₁ ≡ Ok d
      → (c.place + 4 ≤ length s) × AllStand f (little (part s c.place 4)) s (c.place + 4)

-- The answer at r₁ of questions on its entries.
pub record ListAsked (f : Format) (l : List Value → List Ask) (s : List ℕ) (r r₁ q : Step) : Type 0 where
  pub stays : (x : Refusal) → r₁ ≡ Err x → q ≡ r₁
  pub asks : (c d : Cursor) → r ≡ Ok c → r₁ ≡ Ok d
      → Asks (l (items_at f (little (part s c.place 4)) s (c.place + 4))) d q
