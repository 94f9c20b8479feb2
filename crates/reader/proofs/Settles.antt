-- A trace under a budget, question by question.
use Prim.Native.Nat.{ℕ, ◌+◌, ◌-◌, ◌≤◌, ◌<◌}
use mathlib.Core.Path.{◌≡◌}
use mathlib.Core.List.{List}
use mathlib.Core.Bool.{Bool, true, false}
use lib.ListN.{length}
use borrow.Author.Tests.{le-leb, lt-leb}
use Rattle.format.specs.Trace.{Wrong, wrong, unexpected_eof, Trace, charge, needs, guard, settle, refused, spent, pick}
use Rattle.format.specs.Reading.{part, room, field}

module _ {A : Type 0} (b : ℕ) where
  pub guard-yes : {d : Bool} (w : Wrong) (p : ℕ) (t : Trace A) → d ≡ true → settle b (guard d w p t) ≡ settle b t
  unfolding guard
  guard-yes w p t e = rw e

  pub guard-no : {d : Bool} (w : Wrong) (p : ℕ) (t : Trace A) → d ≡ false → settle b (guard d w p t) ≡ refused w p b
  unfolding guard settle
  guard-no w p t e = rw e

  pub room-yes : (n : ℕ) (s : List ℕ) (p : ℕ) (t : Trace A) → n ≤ length s → settle b (room n s p t) ≡ settle b t
  unfolding room settle
  room-yes n s p t h = guard-yes _ _ (needs n p t) (le-leb _ _ h)

  pub room-no : (n : ℕ) (s : List ℕ) (p : ℕ) (t : Trace A) → length s < n
      → settle b (room n s p t) ≡ refused (wrong unexpected_eof 0) p b
  unfolding room
  room-no n s p t h = guard-no _ _ (needs n p t) (lt-leb _ _ h)

  pub field-yes : (n : ℕ) (s : List ℕ) (p : ℕ) (k : List ℕ → Trace A) → p + n ≤ length s
      → settle b (field n s p k) ≡ settle b (k (part s p n))
  unfolding field
  field-yes n s p k h = room-yes (p + n) s p (k (part s p n)) h

  pub field-no : (n : ℕ) (s : List ℕ) (p : ℕ) (k : List ℕ → Trace A) → length s < p + n
      → settle b (field n s p k) ≡ refused (wrong unexpected_eof 0) p b
  unfolding field
  field-no n s p k h = room-no (p + n) s p (k (part s p n)) h

  pub pay-yes : (c n p : ℕ) (t : Trace A) → n ≤ b → settle b (charge c n p t) ≡ settle (b - n) t
  unfolding settle pick
  pay-yes c n p t h = rw (le-leb _ _ h)

  pub pay-no : (c n p : ℕ) (t : Trace A) → b < n → settle b (charge c n p t) ≡ refused (spent c n b) p b
  unfolding settle pick
  pay-no c n p t h = rw (lt-leb _ _ h)
