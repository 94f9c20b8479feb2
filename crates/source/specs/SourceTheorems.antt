-- What the theorems of the entry and of the call, in proofs/, speak of: the entry that document 02 describes, and the
-- numbers of a refusal.
use Rattle.std.specs.Prelude.{ℕ, ◌≤◌, ◌<◌, ◌≡◌}
use mathlib.Core.List.{List}
use Rattle.std.proofs.Math.ListN.{length, get_or}
use Rattle.format.specs.Trace.{Wrong}
use Rattle.vob24_theorems.specs.RefusalNumbers.{Listed}
use Rattle.source.specs.Source.{Answer, Entry, None, Not, no_such_function}

-- ---- the entry

-- "Of that function's debug locations with address at or below the one given, we want the entry number of the one with
-- the greatest address, the last in the file among equals": i is it.
pub record Found (address : ℕ) (pcs : List ℕ) (i : ℕ) : Type 0 where
  pub within : i < length pcs
  pub below : get_or pcs i 0 ≤ address
  pub greatest : (j : ℕ) → j < length pcs → get_or pcs j 0 ≤ address → get_or pcs j 0 ≤ get_or pcs i 0
  pub last : (j : ℕ) → j < length pcs → get_or pcs j 0 ≡ get_or pcs i 0 → j ≤ i

-- "or none": every entry is above the address.
pub record NoneBelow (address : ℕ) (pcs : List ℕ) : Type 0 where
  pub above : (j : ℕ) → j < length pcs → address < get_or pcs j 0

-- ---- the call

-- The numbers of a refusal: those of the questions that are put to a file, and 28.
pub data Lined : Answer → Type 0 where
  entry : {i : ℕ} → Lined (Entry i)
  nowhere : Lined None
  unread : {w : Wrong} {p l : ℕ} → Listed w → Lined (Not w p l)
  past : {w : Wrong} {p l : ℕ} → w.number ≡ no_such_function → Lined (Not w p l)
