-- The formats of the named-type section under the Rust's settings.
use Rattle.std.specs.Prelude.{ℕ, ◌≤◌, ◌<◌, ◌≡◌, List, [], true, false, Ok, Err}
use Rattle.format.specs.Format.{Format, chain}
use Rattle.vob24.specs.Settings as of
use Rattle.vob24.specs.Settings.{Settings}
use Rattle.vob24.specs.Grammar as vob
use Rattle.reader.specs.Contract.{Reader, Step}
use Rattle.reader.specs.declared.Cursor.{Cursor}
use Rattle.reader.specs.declared.Refusal.{Refusal}
use Rattle.in_place.specs.declared.Item.TheVariants.{NamedMethod}
use Rattle.in_place.specs.declared.Table.TheVariants.{Methods}
use Rattle.in_place.specs.Contract.{Items}
use Rattle.repeat_search.specs.Keys.{repeat_at}
use Rattle.repeat_search.specs.Tables.{keys_at}

abbrev pub named_method : Format
named_method = vob.method

abbrev pub named_methods : Settings → Format
named_methods set = vob.methods set

abbrev pub named_format : Settings → Format
named_format set = vob.named_type set

-- the section
abbrev pub named_list : Settings → Format
named_list set = vob.list set of.NamedTypeMeta (vob.named_type set)

-- n methods, each new among those before it
abbrev pub new_methods : ℕ → Format
new_methods n = chain vob.new_method vob.also_seen [] n

-- none of the first m methods repeats one before it
pub record AllNew (s : List ℕ) (from m : ℕ) : Type 0 where
  pub new : (k : ℕ) → k < m → repeat_at (keys_at (Methods NamedMethod) s from) k ≡ false

-- Of n methods m were read, up to the one numbered `first`; the answer stands if these are all new, and that one is a
-- repeat.
pub record MethodsRead (s : List ℕ) (d : Cursor) (n first : ℕ) (t : List ℕ) (m : ℕ) (q : Step) (t' : List ℕ) : Type 0 where
  pub within : m ≤ n
  pub below : m ≤ first
  pub items : Items named_method m s d.place
  pub reads : AllNew s d.place m → (first < n → repeat_at (keys_at (Methods NamedMethod) s d.place) first ≡ true)
      → Reader (new_methods n) s (Ok d) t q t'
  pub stops : AllNew s d.place m → first < n → repeat_at (keys_at (Methods NamedMethod) s d.place) first ≡ true
      → (x : Refusal) × (q ≡ Err x)
