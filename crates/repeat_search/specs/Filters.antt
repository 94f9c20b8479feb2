-- The filters that find repeats: a hash says its class, and which bits of which word it leaves behind.
use Rattle.std.specs.Prelude.{ℕ, ◌+◌, ◌-◌, ◌*◌, ◌/◌, ◌%◌, ◌^◌, ◌≤◌, ◌<◌, ◌≡◌, List, Bool, true, false, Result, IfOk, MatchBool, length, get_or}
use Rattle.std.specs.Int.Bits.{bit_and, bit_or}
use Rattle.repeat_search.specs.declared.Classes.{Classes}
use Rattle.repeat_search.specs.declared.GaveUp.{GaveUp}
use Rattle.repeat_search.specs.Keys.{Key, hash_of, kind_of, repeat_at, FirstRepeat}

-- ---- a hash in a filter

abbrev pub class : ℕ → ℕ
class h = h / 65536 % 65536

-- its word, and its six bits there
abbrev pub spot : List ℕ → ℕ → ℕ
spot filter h = bit_and h (length filter - 1)

unfoldable pub mask_of : ℕ → ℕ
mask_of h =
    bit_or (bit_or (bit_or (bit_or (bit_or (1 * 2 ^ (h / 1048576 % 64) % 2 ^ 64) (1 * 2 ^ (h / 4294967296 % 64) % 2 ^ 64)) (1 * 2 ^ (h / 274877906944 % 64) % 2 ^ 64)) (1 * 2 ^ (h / 17592186044416 % 64) % 2 ^ 64)) (1 * 2 ^ (h / 1125899906842624 % 64) % 2 ^ 64))
    (1 * 2 ^ (h / 72057594037927936 % 64) % 2 ^ 64)

-- the filter has the bits of h
pub record Has (filter : List ℕ) (h : ℕ) : Type 0 where
  pub bits : bit_and (get_or filter (spot filter h) 0) (mask_of h) ≡ mask_of h

pub record Lacks (filter : List ℕ) (h : ℕ) (q : Bool) : Type 0 where
  pub lacks : q ≡ true → Has filter h → ⊥

-- filter' is the filter with the bits of h; if q, then it had not all of them before
pub record Entered (filter : List ℕ) (h : ℕ) (filter' : List ℕ) (q : Bool) : Type 0 where
  pub has : Has filter' h
  pub keeps : (k : ℕ) → Has filter k → Has filter' k
  pub size : length filter' ≡ length filter
  pub new : q ≡ true → Has filter h → ⊥

-- h is of one of the classes
pub record Classed (c : Classes) (h : ℕ) : Type 0 where
  pub low : c.lo ≤ class h
  pub high : class h < c.hi

pub record Outside (c : Classes) (h : ℕ) (q : Bool) : Type 0 where
  pub out : q ≡ true → Classed c h → ⊥

-- a key, by its name and its package, whose hash is
abbrev pub ClassedBy : Classes → (List ℕ → List ℕ → ℕ) → List ℕ → List ℕ → Type 0
ClassedBy c hash x y = Classed c (hash x y)

-- and that is a suspect: its hash is among those of suspects, and so is that of its name's last bytes
pub record Chosen (c : Classes) (hash : List ℕ → List ℕ → ℕ) (tail : List ℕ → ℕ) (suspects x y : List ℕ) : Type 0 where
  pub classed : Classed c (hash x y)
  pub suspect : Has suspects (hash x y)
  pub ending : Has suspects (tail x)

-- A filter and the suspects after a hash h: the filter has it if it is of such a class, and the suspects have it, and the
-- hash t of the last bytes, if the filter had it before.
pub record Noted (c : Classes) (h t : ℕ) (filter filter' suspects suspects' : List ℕ) : Type 0 where
  pub has : Classed c h → Has filter' h
  pub keeps : (k : ℕ) → Has filter k → Has filter' k
  pub size : length filter' ≡ length filter
  pub suspect : Classed c h → Has filter h → Has suspects' h × Has suspects' t
  pub stays : (k : ℕ) → Has suspects k → Has suspects' k
  pub width : length suspects' ≡ length suspects

-- ---- the hashes of keys in a filter, those of a kind

-- each of the first i that is of the kind is in the filter
pub record Filter (Kind : List ℕ → List ℕ → Type 0) (hash : List ℕ → List ℕ → ℕ) (keys : ℕ → Key) (i : ℕ) (filter : List ℕ) : Type 0 where
  pub size : 0 < length filter
  pub has : (k : ℕ) → k < i → kind_of Kind (keys k) → Has filter (hash_of hash (keys k))

-- key i repeats none before it, if it is of the kind, and is in the filter with them
pub record Cleared (Kind : List ℕ → List ℕ → Type 0) (hash : List ℕ → List ℕ → ℕ) (keys : ℕ → Key) (i : ℕ) (filter : List ℕ) : Type 0 where
  pub filter_on : Filter Kind hash keys (i + 1) filter
  pub new : kind_of Kind (keys i) → repeat_at keys i ≡ false

-- whether it repeats one, unless too many were compared
abbrev pub Probed : (List ℕ → List ℕ → Type 0) → (List ℕ → List ℕ → ℕ) → (ℕ → Key) → ℕ → List ℕ → Result Bool GaveUp → Type 0
Probed Kind hash keys i filter q =
    IfOk q (λ b. MatchBool b (repeat_at keys i ≡ true) (Cleared Kind hash keys i filter))

-- the first repeat among n keys, of those of the kind
pub record Passed (Kind : List ℕ → List ℕ → Type 0) (keys : ℕ → Key) (n q : ℕ) : Type 0 where
  pub within : q ≤ n
  pub new : (k : ℕ) → k < q → kind_of Kind (keys k) → repeat_at keys k ≡ false
  pub found : q < n → repeat_at keys q ≡ true

abbrev pub PassedOr : (List ℕ → List ℕ → Type 0) → (ℕ → Key) → ℕ → Result ℕ GaveUp → Type 0
PassedOr Kind keys n q = IfOk q (Passed Kind keys n)

-- each of n keys of such a class that repeats one before it is a suspect
pub record Suspects (c : Classes) (hash : List ℕ → List ℕ → ℕ) (tail : List ℕ → ℕ) (keys : ℕ → Key) (n : ℕ) (suspects : List ℕ) : Type 0 where
  pub has : (k : ℕ) → k < n → Classed c (hash_of hash (keys k)) → repeat_at keys k ≡ true
      → Has suspects (hash_of hash (keys k)) × Has suspects (tail (keys k).name)

abbrev pub FirstOr : (ℕ → Key) → ℕ → Result ℕ GaveUp → Type 0
FirstOr keys n q = IfOk q (FirstRepeat keys n)
