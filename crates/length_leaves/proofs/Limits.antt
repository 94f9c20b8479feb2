-- A count held to a limit that stands in the settings.
use Rattle.std.specs.Prelude.{Ok, Err}
use Prim.Native.Nat.{ℕ, ◌≤◌, ◌<◌}
use mathlib.Core.Path.{◌≡◌}
use mathlib.Core.List.{List}
use borrow.Author.Tests.{le-leb, lt-leb}
use Rattle.format.specs.Trace.{refused}
use Rattle.format.specs.Format.{count}
use Rattle.vob24.specs.Leaves.{limit}
use Rattle.reader.specs.Contract.{told, Read}
use Rattle.reader.specs.Leaves.{Fetches, Counted, Answers}
use Rattle.reader.specs.declared.Cursor.{Cursor}
use Rattle.reader.specs.declared.Refusal.{Refusal}
use Rattle.reader.proofs.Leaves.{count-size, count_no}

module _ {e x m m' l k z : ℕ} {s : List ℕ} {c d : Cursor} {q : Read ℕ} {n : ℕ} (i : q ≡ Ok (n, d)) (h : Fetches 4 s c q) (j : m' ≡ m) where
  pub limit-kept : {p : Read ℕ} {z' : ℕ} → n ≤ m' → z' ≡ z → Counted s d n l k z' p
      → Answers (count (limit e x m) l k z) s c p
  limit-kept a b t = rw (← j) (count-size i h (le-leb _ _ a) b t)

  pub limit-over : {y : Refusal} → m' < n → told y ≡ refused ((limit e x m').why n) d.place d.left
      → Answers (count (limit e x m) l k z) s c (Err y)
  limit-over a b = rw (← j) (count_no i h (lt-leb _ _ a) b)
