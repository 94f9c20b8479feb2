-- The contracts of the search of one table.
use Rattle.std.specs.Prelude.{ℕ, ◌≡◌, List, [], ◌∷◌, Option, Some, true}
use Rattle.format.specs.Trace.{pick}
use Rattle.format.specs.Format.{Value, content}
use Rattle.format.specs.Reading.{same}
use Rattle.alike.specs.Alike.{pair, nearest}
use Rattle.folding.specs.Bytes.{fold_bytes, Without}
use Rattle.in_place.specs.declared.Item.{Item}
use Rattle.in_place.specs.declared.Table.TheVariants.{Alike}
use Rattle.in_place.specs.Walk.{value_at, items_at, last_at}
use Rattle.in_place.specs.Items.{format_of, name_of, text_at}
use Rattle.in_place.specs.Contract.{Placed}
use Rattle.repeat_search.specs.Keys.{repeat_at}
use Rattle.repeat_search.specs.Tables.{keys_at, Standing}
use Rattle.alike_names.specs.Contract.{table_of}

-- All of them have this property.
pub data All (P : Value → Type 0) : List Value → Type 0 where
  none : All P []
  also : {v : Value} {vs : List Value} → P v → All P vs → All P (v ∷ vs)

-- If q is a place, it is the one past the items, and no name of theirs has a byte from low to high.
pub record ItemsWithout (i : Item) (n low high : ℕ) (s : List ℕ) (from : ℕ) (q : Option ℕ) : Type 0 where
  pub all : (end : ℕ) → q ≡ Some end
      → All (λ v. Without low high (content (name_of i v))) (items_at (format_of i) n s from)
      × (end ≡ last_at (format_of i) n s from)

-- Item k, which stands at p, repeats one before it by folded names.
pub record Repeats (i : Item) (s : List ℕ) (from k p : ℕ) : Type 0 where
  pub standing : Standing (Alike i) s from k p
  pub repeat : repeat_at (keys_at (Alike i) s from) k ≡ true

-- the name of the item at p
abbrev pub name_at : Item → List ℕ → ℕ → Value
name_at i s p = name_of i (value_at (format_of i) s p)

pub record NearerIs (i : Item) (s : List ℕ) (p a best q : ℕ) : Type 0 where
  pub is : q ≡ pick (same (fold_bytes (text_at s p)) (fold_bytes (text_at s a))) a best

-- The item at q is the nearest before item k that is alike to it.
pub record PartnerIs (i : Item) (s : List ℕ) (from k p q : ℕ) : Type 0 where
  pub placed : Placed (format_of i) s q
  pub nearest : nearest (name_at i s p) (table_of i (items_at (format_of i) k s from)) ≡ pair (name_at i s q) (name_at i s p)
