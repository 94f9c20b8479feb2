-- The tables of items, and what tells their items apart.
use Rattle.std.specs.Prelude.{ℕ, List, []}
use Rattle.format.specs.Format.{Value, none, text, content, Format}
use Rattle.vob24.specs.Questions.{Identity}
use Rattle.folding.specs.Bytes.{fold_bytes}
use Rattle.vob24.specs.Grammar.{identity}
use Rattle.in_place.specs.declared.Item.{Item}
use Rattle.in_place.specs.declared.Item.TheVariants.{StructField, RuntimeField}
use Rattle.in_place.specs.declared.Table.{Table}
use Rattle.in_place.specs.declared.Table.TheVariants.{Fields, Methods, Identities, Alike}
use Rattle.in_place.specs.Items.{format_of, name_of, text_at, package_at}

abbrev pub item_of : Table → Item
item_of Fields = StructField
item_of (Methods i) = i
item_of Identities = RuntimeField
item_of (Alike i) = i

abbrev pub format_in : Table → Format
format_in t = format_of (item_of t)

-- a key: the package, if it has one, and the name, in `Alike` with its letters decomposed
abbrev pub package_of : Table → Value → Value
package_of Fields v = none
package_of (Methods i) v = none
package_of Identities v = (identity v).0
package_of (Alike i) v = none

abbrev pub key_name : Table → Value → Value
key_name Fields v = name_of StructField v
key_name (Methods i) v = name_of i v
key_name Identities v = name_of RuntimeField v
-- as bytes that stand nowhere in the pack
key_name (Alike i) v = text 0 (fold_bytes (content (name_of i v)))

abbrev pub key_of : Table → Value → Identity
key_of t v = (package_of t v, key_name t v)

-- the name's bytes, and the package's, of an item at p
abbrev pub key_text : Table → List ℕ → ℕ → List ℕ
key_text Fields s p = text_at s p
key_text (Methods i) s p = text_at s p
key_text Identities s p = text_at s p
key_text (Alike i) s p = fold_bytes (text_at s p)

abbrev pub package_text : Table → List ℕ → ℕ → List ℕ
package_text Fields s p = []
package_text (Methods i) s p = []
package_text Identities s p = text_at s (package_at s p)
package_text (Alike i) s p = []
