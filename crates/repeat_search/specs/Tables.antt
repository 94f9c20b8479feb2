-- The keys of a table's items, where they stand in a pack.
use Rattle.std.specs.Prelude.{ℕ, List, [], ◌∷◌, map, Bool, false, ◌≡◌}
use Rattle.format.specs.Trace.{pick}
use Rattle.format.specs.Format.{Value, content}
use Rattle.format.specs.Reading.{same}
use Rattle.vob24.specs.Questions.{among_identities}
use Rattle.folding.specs.Bytes.{fold_bytes}
use Rattle.in_place.specs.declared.Item.{Item}
use Rattle.in_place.specs.declared.Item.TheVariants.{Name, StructField, InterfaceMethod, RuntimeMethod, NamedMethod, RuntimeField}
use Rattle.in_place.specs.declared.Table.{Table}
use Rattle.in_place.specs.declared.Table.TheVariants.{Fields, Methods, Identities, Alike}
use Rattle.in_place.specs.Walk.{value_at, last_at}
use Rattle.in_place.specs.Items.{name_of, text_at}
use Rattle.in_place.specs.Tables.{item_of, format_in, package_of, key_name, key_of, key_text, package_text}
use Rattle.in_place.specs.Contract.{Items, After}
use Rattle.repeat_search.specs.declared.Classes.{Classes}
use Rattle.repeat_search.specs.declared.Listing.{Listing}
use Rattle.repeat_search.specs.Keys.{Key, hash_of}
use Rattle.repeat_search.specs.Filters.{Chosen}
use Rattle.repeat_search.specs.Marks.{mark_of, streamed_mark}
use Rattle.repeat_search.specs.Hashes.{tail_of, tail_hash, text_hash, ended, plain_hash, streamed_hash}

-- among the struct fields of names alike
abbrev exempt_item : Item → List ℕ → Bool
exempt_item Name x = false
exempt_item StructField x = same x (95 ∷ [])
exempt_item InterfaceMethod x = false
exempt_item RuntimeMethod x = false
exempt_item NamedMethod x = false
exempt_item RuntimeField x = false

-- "_" is exempt in 16 and 19
abbrev pub exempt : Table → List ℕ → Bool
exempt Fields x = same x (95 ∷ [])
exempt (Methods i) x = false
exempt Identities x = same x (95 ∷ [])
exempt (Alike i) x = exempt_item i x

-- whether an item repeats one of those before it, by their values
unfoldable pub repeats : Table → List Value → Value → Bool
repeats t before v = pick (exempt t (content (name_of (item_of t) v))) false (among_identities (key_of t v) (map (key_of t) before))

abbrev pub key_in : Table → Value → Key
key_in t v = record { name = content (key_name t v); package_name = content (package_of t v); exempt = exempt t (content (name_of (item_of t) v)) }

-- the key of the item at p, and of item k of those from a place on
abbrev pub key_at : Table → List ℕ → ℕ → Key
key_at t s p = key_in t (value_at (format_in t) s p)

unfoldable pub keys_at : Table → List ℕ → ℕ → ℕ → Key
keys_at t s from k = key_at t s (last_at (format_in t) k s from)

-- of a listing's items
abbrev pub keys_of : List ℕ → Listing → ℕ → Key
keys_of s l = keys_at l.table s l.from

-- the hash of a key, by its name and its package
abbrev pub key_hash : Table → ℕ → List ℕ → List ℕ → ℕ
key_hash Fields seed = plain_hash seed
key_hash (Methods i) seed = plain_hash seed
key_hash Identities seed = plain_hash seed
key_hash (Alike i) seed = streamed_hash seed

-- the mark of its name
abbrev pub mark_in : Table → List ℕ → ℕ
mark_in Fields = mark_of
mark_in (Methods i) = mark_of
mark_in Identities = mark_of
mark_in (Alike i) = streamed_mark

-- ---- what the code tells of the item at p

pub record ExemptIs (t : Table) (s : List ℕ) (p : ℕ) (q : Bool) : Type 0 where
  pub is : q ≡ exempt t (text_at s p)

-- the mark of the text at p, and of the item's name
pub record TextMark (s : List ℕ) (p q : ℕ) : Type 0 where
  pub is : q ≡ mark_of (text_at s p)

pub record MarkIs (t : Table) (s : List ℕ) (p q : ℕ) : Type 0 where
  pub is : q ≡ mark_in t (key_text t s p)

-- its last bytes
pub record TextTail (s : List ℕ) (p q : ℕ) : Type 0 where
  pub is : q ≡ tail_of (text_at s p)

-- the hash of the text at p, as a key's after that of a package, and folded
pub record TextHash (seed h : ℕ) (s : List ℕ) (p q : ℕ) : Type 0 where
  pub is : q ≡ text_hash seed h (text_at s p)

pub record EndedHash (seed h : ℕ) (s : List ℕ) (p q : ℕ) : Type 0 where
  pub is : q ≡ ended seed (text_hash seed h (text_at s p))

pub record FoldedHash (seed : ℕ) (s : List ℕ) (p q : ℕ) : Type 0 where
  pub is : q ≡ streamed_hash seed (fold_bytes (text_at s p)) []

-- of the package of a runtime struct's field, and of a key
pub record PackageHash (seed : ℕ) (s : List ℕ) (p q : ℕ) : Type 0 where
  pub is : q ≡ text_hash seed 0 (package_text Identities s p)

pub record KeyHash (seed : ℕ) (t : Table) (s : List ℕ) (p q : ℕ) : Type 0 where
  pub is : q ≡ hash_of (key_hash t seed) (key_at t s p)

-- ---- its place among the items

-- The items of a listing were read.
abbrev pub Listed : List ℕ → Listing → Type 0
Listed s l = Items (format_in l.table) l.n s l.from

-- the keys that are suspects of these classes
abbrev pub Sought : Classes → Listing → ℕ → List ℕ → List ℕ → List ℕ → Type 0
Sought c l seed suspects = Chosen c (key_hash l.table seed) (tail_hash seed) suspects

-- Item i, which stands at p.
pub record Standing (t : Table) (s : List ℕ) (from i p : ℕ) : Type 0 where
  pub after : After (format_in t) s from i p
  pub place : p ≡ last_at (format_in t) i s from
