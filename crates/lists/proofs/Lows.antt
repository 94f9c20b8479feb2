-- The laws of small bytes: of a part, and of the parts copied.
use Prim.Native.Nat.{ℕ, suc, zero, max, ◌+◌, ◌-◌, ◌*◌, ◌≤◌, ◌<◌}
use mathlib.Core.Path.{◌≡◌, refl, ap}
use mathlib.Core.Bool.{Bool, true, false}
use mathlib.Core.List.{List, [], ◌∷◌}
use native.Mathlib.Omega.{arith}
use lib.Dec.{ltb}
use lib.ListN.{length, get_or, take, drop, length-drop}
use lib.Seq.{length-take-le, get_or-take, get_or-drop}
use Rattle.std.proofs.Common.{fold}
use borrow.Author.Tests.{ltb-true, ltb-false}
use native.Mathlib.Nat.{add-zero, add_assoc}
use Rattle.lists.specs.Runs.{Low, Copied, CopiedLow}
use Rattle.lists.proofs.Copying.{copied_none, copied-join}

low-none : {s : List ℕ} {from most : ℕ} → Low s from from most
low-none = record { low = λ k x y. absurd (omega arith) }

low-join : {s : List ℕ} {from i to most : ℕ} → Low s from i most → Low s i to most → Low s from to most
low-join {s} {from} {i} {to} {most} a b = record { low = λ k x y. go k x y (ltb k i) refl }
  where
    go : (k : ℕ) → from ≤ k → k < to → (t : Bool) → ltb k i ≡ t → get_or s k 0 ≤ most
    go k x y true e = a.low k x (ltb-true k i e)
    go k x y false e = b.low k (ltb-false k i e) y

-- the largest of some bytes is above none of them
fold-most : (m : ℕ) (s : List ℕ) → m ≤ fold max m s
fold-most m [] = omega arith
fold-most m (b ∷ s) = omega (arith, fold-most (max m b) s)

fold-each : (m : ℕ) (s : List ℕ) (k : ℕ) → k < length s → get_or s k 0 ≤ fold max m s
fold-each m [] k h = absurd (omega arith)
fold-each m (b ∷ s) zero h = omega (arith, fold-most (max m b) s)
fold-each m (b ∷ s) (suc k) h = fold-each (max m b) s k (omega arith)

pub low-largest : {s : List ℕ} {from to most m : ℕ} → from ≤ to → to ≤ length s
    → m ≡ fold max 0 (take (to - from) (drop from s)) → ltb most m ≡ false → Low s from to most
low-largest {s} {from} {to} {most} {m} g h e f = record { low = at }
  where
    at : (k : ℕ) → from ≤ k → k < to → get_or s k 0 ≤ most
    at k x y =
        let p = take (to - from) (drop from s) in
        let l : length p ≡ to - from = length-take-le (to - from) (drop from s) (omega (arith, length-drop from s)) in
        let a : get_or p (k - from) 0 ≡ get_or (drop from s) (k - from) 0 = get_or-take (to - from) (drop from s) (k - from) 0 (omega arith) in
        let b : from + (k - from) ≡ k = omega arith in
        omega (arith, e, ltb-false most m f, fold-each 0 p (k - from) (omega (arith, l)), a, get_or-drop from s (k - from) 0, ap (λ i. get_or s i 0) b)

-- the bytes copied so far
module _ {n : ℕ} {s : List ℕ} {from most : ℕ} {t : List ℕ} {at : ℕ} where
  pub copied-start : CopiedLow n s from most t at 0 t
  copied-start = record { within = omega arith; low = rw add-zero low-none; copied = copied_none }

  pub copied_more : {k m : ℕ} {t₁ t₂ : List ℕ} → k + m ≤ n → Low s (from + k) (from + k + m) most
      → Copied (1 ∷ []) m s (from + k) t₁ (at + k) t₂ → CopiedLow n s from most t at k t₁
      → CopiedLow n s from most t at (k + m) t₂
  copied_more {k} {m} h a b l = let e : 1 * k ≡ k = omega arith in record { within = h; low = rw (← add_assoc from k m) (low-join l.low a); copied = copied-join l.copied (rw e b) }
