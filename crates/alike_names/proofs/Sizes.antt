-- The laws of parts that have a fixed size: where they end, and lists of them.
use Rattle.std.proofs.Common.{ℕ, suc, zero, ◌+◌, ◌*◌, ◌≤◌, ◌≡◌, ◌∙◌, List, arith, length}
use Rattle.format.specs.Trace.{out}
use Rattle.format.specs.Format.{Value, Width, Rule, fixed, Format, empty, leaf, seq}
use Rattle.format.specs.Reading.{little, part, size, trace}
use Rattle.vob24.specs.Settings.{max_pack_bytes}
use Rattle.in_place.specs.Walk.{Stands, next_at, last_at, AllStand, parts, passed}
use Rattle.in_place.specs.Contract.{Past}
use Rattle.alike_names.specs.Tables.{WordsAt, WordsEnd}
use Rattle.in_place.proofs.Lists.{ListStands}
use Rattle.alike_names.proofs.Lists.{next-within}

-- f has k bytes
pub record Sized (f : Format) (k : ℕ) : Type 0 where
  pub next : {s : List ℕ} {p : ℕ} → Stands f s p → next_at f s p ≡ p + k

pub sized-none : Sized empty 0
unfolding next_at trace out
sized-none = record { next = λ {s} {p} h. omega arith }

pub sized-number : {w : Width} {r : Rule} → Sized (leaf (fixed w r)) (size w)
sized-number = record { next = λ h. (passed h).3 }

pub sized-both : {f : Format} {g : Value → Format} {m n : ℕ} → Sized f m → ((v : Value) → Sized (g v) n)
    → Sized (seq f g) (m + n)
sized-both a b = record { next = λ h. let x = parts h in omega (arith, x.next, a.next x.fore, (b _).next x.back) }

-- ---- lists of them

sized-last : {f : Format} {k : ℕ} → Sized f k → (n : ℕ) (s : List ℕ) (p : ℕ) → AllStand f n s p
    → last_at f n s p ≡ p + n * k
unfolding AllStand last_at
sized-last z zero s p h = omega arith
sized-last {f} {k} z (suc n) s p h = omega (arith, sized-last z n s (next_at f s p) h.1, z.next h.0)

pub record SizedList (k : ℕ) (g : Format) (s : List ℕ) (p : ℕ) : Type 0 where
  pub room : p + 4 + little (part s p 4) * k ≤ length s
  pub next : next_at g s p ≡ p + 4 + little (part s p 4) * k

pub sized-list : {g f : Format} {k : ℕ} {s : List ℕ} {p : ℕ} → Sized f k → Stands g s p → ListStands g f s p
    → SizedList k g s p
sized-list {g} {f} {k} {s} {p} z h l =
    let e : next_at g s p ≡ p + 4 + little (part s p 4) * k = l.next ∙ sized-last z (little (part s p 4)) s (p + 4) l.all in
    record { room = omega (arith, e, (next-within h).1 (omega (arith, l.room))); next = e }

-- of four bytes each
module _ {g : Format} {s : List ℕ} {p : ℕ} (l : SizedList 4 g s p) where
  pub words-at : length s ≤ max_pack_bytes → WordsAt s p
  words-at h = record { small = h; room = omega (arith, l.room) }

  pub words-past : {q : ℕ} → WordsEnd s p q → Past g s p q
  words-past w = record { is = w.is ∙ omega (arith, l.next) }
