-- The answers of a charge.
use Rattle.std.specs.Prelude.{Ok, Err}
use Prim.Native.Nat.{ℕ, ◌-◌, ◌≤◌, ◌<◌}
use mathlib.Core.Path.{◌≡◌, refl, sym, ◌∙◌}
use mathlib.Core.Bool.{Bool, true, false}
use native.Mathlib.Omega.{arith}
use lib.Dec.{leb}
use borrow.Author.Tests.{le-leb, lt-leb, leb-true, leb-false}
use Rattle.format.specs.Trace.{pick}
use Rattle.reader.specs.Contract.{refusal, Paid, Step}
use Rattle.reader.specs.declared.kinds.Kind.TheVariants.{AllocationBudgetExceeded}
use Rattle.reader.specs.declared.Cursor.{Cursor}
use Rattle.reader.specs.declared.Refusal.{Refusal}

module _ {k n : ℕ} {c : Cursor} where
  pub paid-no : c.left < n → Paid k n c (Err (refusal AllocationBudgetExceeded k n c.left c))
  unfolding pick
  paid-no h = record { is = rw (lt-leb _ _ h) }

  pub paid-yes : n ≤ c.left → Paid k n c (Ok (record { place = c.place; left = c.left - n; at = c.at }))
  unfolding pick
  paid-yes h = record { is = rw (le-leb _ _ h) }

-- what a charge says
pub record Spent (k n : ℕ) (c : Cursor) (x : Refusal) : Type 0 where
  pub poor : c.left < n
  pub is : x ≡ refusal AllocationBudgetExceeded k n c.left c

pub record Afforded (n : ℕ) (c d : Cursor) : Type 0 where
  pub rich : n ≤ c.left
  pub is : d ≡ record { place = c.place; left = c.left - n; at = c.at }

pub paid-spent : {k n : ℕ} {c : Cursor} {r : Step} {x : Refusal} → r ≡ Err x → Paid k n c r → Spent k n c x
unfolding pick
paid-spent {k} {n} {c} {r} {x} e h = go (leb n c.left) refl (sym e ∙ h.is)
  where
    go : (d : Bool) → leb n c.left ≡ d
        → ◌≡◌ {A = Step} (Err x) (pick d (Ok (record { place = c.place; left = c.left - n; at = c.at })) (Err (refusal AllocationBudgetExceeded k n c.left c)))
        → Spent k n c x
    go true i j = let z : ◌≡◌ {A = ℕ} 0 1 = cc in absurd (omega arith)
    go false i j = record { poor = leb-false _ _ i; is = cc }

pub paid-bought : {k n : ℕ} {c d : Cursor} {r : Step} → r ≡ Ok d → Paid k n c r → Afforded n c d
unfolding pick
paid-bought {k} {n} {c} {d} {r} e h = go (leb n c.left) refl (sym e ∙ h.is)
  where
    go : (b : Bool) → leb n c.left ≡ b
        → ◌≡◌ {A = Step} (Ok d) (pick b (Ok (record { place = c.place; left = c.left - n; at = c.at })) (Err (refusal AllocationBudgetExceeded k n c.left c)))
        → Afforded n c d
    go true i j = record { rich = leb-true _ _ i; is = cc }
    go false i j = let z : ◌≡◌ {A = ℕ} 0 1 = cc in absurd (omega arith)
