-- What the exported calls return: document 01's answers as six numbers.
use Rattle.std.specs.Prelude.{ℕ, ◌≡◌, refl, List, ◌⊎◌}
use Rattle.std.proofs.Common.{inl, inr, arith}
use Rattle.format.specs.Trace.{Wrong}
use Rattle.vob24.specs.Calls as vob
use Rattle.alike.specs.Alike as alike
use Rattle.alike_theorems.specs.Answers.{Alikes, some, none, missed}
use Rattle.vob24_theorems.specs.RefusalNumbers.{Answered, taken, refused, Looked, found}
use Rattle.vob24_theorems.specs.RefusalNumbers as looked
use Rattle.c_answers.specs.declared.VobAnswer.{VobAnswer}

abbrev refused_numbers : Wrong → ℕ → ℕ → VobAnswer
refused_numbers w p l = record { number = w.number; value1 = w.context; value2 = w.detail1; value3 = w.detail2; value4 = p; value5 = l }

-- "taken (words, bytes taken, charged, left) or refused (number, c, d1, d2, place, left)".
abbrev pub numbers_of : vob.Answer → VobAnswer
numbers_of (vob.Taken w n c l) = record { number = 0; value1 = w; value2 = n; value3 = c; value4 = l; value5 = 0 }
numbers_of (vob.Refused w p l) = refused_numbers w p l

-- "start and length, or the refusal"
abbrev pub found_numbers : vob.Found → VobAnswer
found_numbers (vob.At p n) = record { number = 0; value1 = p; value2 = n; value3 = 0; value4 = 0; value5 = 0 }
found_numbers (vob.Not w p l) = refused_numbers w p l

-- "value1 1 where there is a pair and 0 where not", then start and length of the earlier name and of the later
abbrev pub alike_numbers : alike.Answer → VobAnswer
alike_numbers (alike.Pair a m b n) = record { number = 0; value1 = 1; value2 = a; value3 = m; value4 = b; value5 = n }
alike_numbers alike.None = record { number = 0; value1 = 0; value2 = 0; value3 = 0; value4 = 0; value5 = 0 }
alike_numbers (alike.Not w p l) = refused_numbers w p l

-- THE contract of an exported call that is lent a tape: the numbers returned and the tape at exit are those of its
-- outcome.
pub record Shows (o : vob.Outcome) (q : VobAnswer) (t' : List ℕ) : Type 0 where
  pub answer : q ≡ numbers_of o.answer
  pub tape : t' ≡ o.tape

-- 0 says taken or found, and nothing else: no refusal has that number (vob24, Numbered).
pub zero-taken : {a : vob.Answer} → Answered a → (numbers_of a).number ≡ 0
    → (w : ℕ) × (n : ℕ) × (c : ℕ) × (l : ℕ) × (a ≡ vob.Taken w n c l)
zero-taken (taken {w = w} {n = n} {c = c} {l = l}) e = (w, n, c, l, refl)
zero-taken (refused h) e = absurd (omega (arith, h.least, e))

pub zero-found : {a : vob.Found} → Looked a → (found_numbers a).number ≡ 0 → (p : ℕ) × (n : ℕ) × (a ≡ vob.At p n)
zero-found (found {p = p} {n = n}) e = (p, n, refl)
zero-found (looked.missed h) e = absurd (omega (arith, h.least, e))

pub zero-alike : {a : alike.Answer} → Alikes a → (alike_numbers a).number ≡ 0
    → (a ≡ alike.None) ⊎ ((s : ℕ) × (m : ℕ) × (t : ℕ) × (n : ℕ) × (a ≡ alike.Pair s m t n))
zero-alike (some {a = s} {m = m} {b = t} {n = n}) e = inr (s, m, t, n, refl)
zero-alike none e = inl refl
zero-alike (missed h) e = absurd (omega (arith, h.least, e))
