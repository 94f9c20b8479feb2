-- What a file is made of: leaves, and one part after another, where what was read may say what comes next.
use Rattle.std.specs.Prelude.{ℕ, suc, zero, List, [], ◌∷◌, Bool}
use Rattle.format.specs.Trace.{Wrong}

-- What was read. A text or payload has its start in the file and its bytes.
pub data Value : Type 0 where
  none : Value
  num : ℕ → Value
  text : ℕ → List ℕ → Value
  pair : Value → Value → Value

abbrev pub number : Value → ℕ
number none = 0
number (num n) = n
number (text p b) = 0
number (pair a b) = 0

abbrev pub start : Value → ℕ
start none = 0
start (num n) = 0
start (text p b) = p
start (pair a b) = 0

abbrev pub content : Value → List ℕ
content none = []
content (num n) = []
content (text p b) = b
content (pair a b) = []

abbrev pub first : Value → Value
first none = none
first (num n) = none
first (text p b) = none
first (pair a b) = a

abbrev pub second : Value → Value
second none = none
second (num n) = none
second (text p b) = none
second (pair a b) = b

-- A question on a number that was read, and what the refusal says.
pub record Rule : Type 0 where
  pub test : ℕ → Bool
  pub why : ℕ → Wrong

-- Fixed-width numbers, the low byte first; `option` is an optional id in four bytes.
pub data Width : Type 0 where
  byte half word long option : Width

-- A question on what was read, with no bytes of its own: charges, and a refusal.
pub data Ask : Type 0 where
  -- context, amount
  pay : ℕ → ℕ → Ask
  deny : Wrong → Ask

pub data Leaf : Type 0 where
  -- a number of this width, held to a rule
  fixed : Width → Rule → Leaf
  -- these bytes and no others, which the record leaves out; the refusal may show their number
  mark : List ℕ → (ℕ → Wrong) → Leaf
  -- a packed number
  packed : Leaf
  -- a length held to a rule, then so many bytes, charged under this context, that are well-formed by this test
  string : Rule → ℕ → (List ℕ → Bool) → Leaf
  -- the same with no test of the bytes
  payload : Rule → ℕ → Leaf
  -- a count held to a rule, then so many bytes an entry held against the bytes left, then charged: context, size of an
  -- entry
  count : Rule → ℕ → ℕ → ℕ → Leaf
  -- questions on what was read before
  ask : List Ask → Leaf

pub data Format : Type 0 where
  empty : Format
  leaf : Leaf → Format
  seq : Format → (Value → Format) → Format

infixr 40 ◌▸◌
abbrev pub ◌▸◌ : Format → Format → Format
f ▸ g = seq f (λ _. g)

-- So many parts, each by the state that the ones before it left.
unfoldable pub chain : {S : Type 0} → (S → Format) → (S → Value → S) → S → ℕ → Format
chain f u x zero = empty
chain f u x (suc n) = seq (f x) (λ v. chain f u (u x v) n)

abbrev pub times : Format → ℕ → Format
times f n = chain {S = Unit {0}} (λ _. f) (λ _ _. tt) tt n

-- The parts of a chain that was read.
unfoldable pub items : ℕ → Value → List Value
items zero v = []
items (suc n) v = first v ∷ items n (second v)

-- A list that was read, count and items: its entries, and how many they are.
abbrev pub entries : Value → List Value
entries v = items (number (first v)) (second v)

abbrev pub counted : Value → ℕ
counted v = number (first v)
