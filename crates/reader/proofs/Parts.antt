-- The laws of lists, variants and optional parts: a number that was read, and the part that it stands before.
use Rattle.std.specs.Prelude.{Ok, Err}
use Rattle.std.specs.Result.{IsErrAnd}
use Prim.Native.Nat.{ℕ, ◌+◌, ◌≤◌, ◌<◌}
use mathlib.Core.Path.{◌≡◌, ap, ◌∙◌}
use mathlib.Core.List.{List, [], ◌∷◌}
use native.Mathlib.Omega.{arith}
use lib.Dec.{T, leb→le}
use lib.ListN.{length, get_or}
use Rattle.format.specs.Format.{Value, text, number, Rule, byte, fixed, count, Format, empty, leaf, seq, times}
use Rattle.format.specs.Reading.{little, part, trace}
use Rattle.format.proofs.TraceTheorems.{leaf-ends}
use Rattle.vob24.specs.Refusals.{invalid_boolean}
use Rattle.vob24.specs.Leaves.{at_most, at_most_bare, choose, optional}
use Rattle.reader.specs.Contract.{ReadyAt, Takes, ReadsSpan, got_span, Reader, NumberOf, SpanOf, Step, Read, span_at}
use Rattle.reader.specs.declared.Cursor.{Cursor}
use Rattle.reader.specs.declared.Refusal.{Refusal}
use Rattle.reader.specs.declared.Span.{Span}
use Rattle.reader.proofs.Laws.{takes-ends, got_of, number_then, number_not, at-step, empty_then, got-ready, Turns, turns-done, turns-refused}

-- the number was not got: the whole is refused
pub part_not : {f : Format} {of : Value → ℕ} {g : Value → Format} {s : List ℕ} {c : Cursor} {q : Read ℕ} {x : Refusal} {r r₂ : Step} {t t₁ t₂ : List ℕ}
    → r ≡ Ok c → q ≡ Err x → IsErrAnd r₂ (λ y. y ≡ x) → NumberOf f of s c t q t₁ → Reader (seq f g) s r t r₂ t₂
part_not y e i h = at-step y (number_not _ e i h)

-- ---- a list: its count, and its items

pub list_then : {ρ : Rule} {m k z : ℕ} (f : Format) {s : List ℕ} {c d : Cursor} {q : Read ℕ} {n : ℕ} {r r₂ : Step} {t t₁ t₂ : List ℕ}
    → r ≡ Ok c → q ≡ Ok (n, d) → NumberOf (leaf (count ρ m k z)) number s c t q t₁
    → Reader (times f n) s (Ok d) t₁ r₂ t₂
    → Reader (seq (leaf (count ρ m k z)) (λ v. times f (number v))) s r t r₂ t₂
list_then f y e h k = at-step y (number_then (λ n. times f n) e h k)

-- the ends of its loop
module _ {ρ : Rule} {m k z : ℕ} {f : Format} {s : List ℕ} {c d : Cursor} {q : Read ℕ} {n : ℕ} {r : Step} {t t₁ : List ℕ} (y : r ≡ Ok c) (e : q ≡ Ok (n, d)) (h : NumberOf (leaf (count ρ m k z)) number s c t q t₁) where
  pub list_done : {t₂ : List ℕ} {r₂ : Step} {j : ℕ} → j ≤ 0 → Turns f s t₁ (Ok d) n t₂ r₂ j
      → Reader (seq (leaf (count ρ m k z)) (λ v. times f (number v))) s r t r₂ t₂
  list_done i l = list_then f y e h (turns-done i l)

  pub list-refused : {t₂ t₃ : List ℕ} {r₂ r₃ : Step} {j : ℕ} {x : Refusal} → 0 < j → Turns f s t₁ (Ok d) n t₂ r₂ j
      → Reader f s r₂ t₂ r₃ t₃ → r₃ ≡ Err x
      → Reader (seq (leaf (count ρ m k z)) (λ v. times f (number v))) s r t r₃ t₃
  list-refused i l g w = list_then f y e h (turns-refused i l g w)

-- ---- a part by its tag

pub choose_at : {ρ : Rule} (fs : List Format) {s : List ℕ} {c d : Cursor} {q : Read ℕ} {n : ℕ} (k : ℕ) {r r₂ : Step} {t t₁ t₂ : List ℕ}
    → r ≡ Ok c → q ≡ Ok (n, d) → n ≡ k → NumberOf (leaf (fixed byte ρ)) number s c t q t₁
    → Reader (get_or fs k empty) s (Ok d) t₁ r₂ t₂ → Reader (choose ρ fs) s r t r₂ t₂
choose_at fs k y e i h m = at-step y (number_then (λ n. get_or fs n empty) e h (rw i m))

-- a tag that was read has passed its rule: so the last arm, `_`, stands for the tags that are left
pub tag-ok : {ρ : Rule} {s : List ℕ} {c d : Cursor} {q : Read ℕ} {n : ℕ} {t t₁ : List ℕ} → q ≡ Ok (n, d)
    → NumberOf (leaf (fixed byte ρ)) number s c t q t₁ → T (ρ.test n)
unfolding trace
tag-ok {ρ} {s} {c} {d} {q} {n} e h =
    let g = got_of e h in
    let p = leaf-ends (fixed byte ρ) s c.place (takes-ends g.takes) in
    let i : n ≡ little (part s c.place 1) = g.is ∙ ap number p.2 in
    rw i p.1

pub tag-most : {m y : ℕ} {s : List ℕ} {c d : Cursor} {q : Read ℕ} {n : ℕ} {t t₁ : List ℕ} → q ≡ Ok (n, d)
    → NumberOf (leaf (fixed byte (at_most m y))) number s c t q t₁ → n ≤ m
tag-most {m} {n = n} e h = leb→le n m (tag-ok e h)

pub tag-most-bare : {m y : ℕ} {s : List ℕ} {c d : Cursor} {q : Read ℕ} {n : ℕ} {t t₁ : List ℕ} → q ≡ Ok (n, d)
    → NumberOf (leaf (fixed byte (at_most_bare m y))) number s c t q t₁ → n ≤ m
tag-most-bare {m} {n = n} e h = leb→le n m (tag-ok e h)

module _ {f : Format} {s : List ℕ} {c d : Cursor} {q : Read ℕ} {n : ℕ} {r : Step} {t t₁ : List ℕ} (y : r ≡ Ok c) (e : q ≡ Ok (n, d)) where
  pub optional-none : n ≡ 0 → NumberOf (leaf (fixed byte (at_most 1 invalid_boolean))) number s c t q t₁
      → Reader (optional f) s r t (Ok d) t₁
  optional-none i h = choose_at (empty ∷ f ∷ []) 0 y e i h (empty_then (got-ready e h))

  pub optional-some : {r₂ : Step} {t₂ : List ℕ} → (n ≡ 0 → ⊥)
      → NumberOf (leaf (fixed byte (at_most 1 invalid_boolean))) number s c t q t₁ → Reader f s (Ok d) t₁ r₂ t₂
      → Reader (optional f) s r t r₂ t₂
  optional-some i h m = let j = tag-most e h in choose_at (empty ∷ f ∷ []) 1 y e (omega arith) h m

-- ---- a text or payload whose start and length are handed out

pub record GotSpan (f : Format) (s : List ℕ) (c : Cursor) (t : List ℕ) (p n : ℕ) (c' : Cursor) (t₁ : List ℕ) : Type 0 where
  pub room : p + n ≤ length s
  pub takes : Takes f s c t (text p (part s p n)) c' t₁
  pub ready : ReadyAt s c'

module _ {f : Format} {s : List ℕ} {c : Cursor} {t t₁ : List ℕ} {q : Read Span} where
  pub span_of : {p n : ℕ} {c' : Cursor} → q ≡ Ok (span_at p n, c') → SpanOf f s c t q t₁ → GotSpan f s c t p n c' t₁
  span_of {p} {n} {c'} e h = go (rw e at h.reads) (rw e at h.ready)
    where
      go : ReadsSpan f s c t (Ok (span_at p n, c')) t₁ → ReadyAt s c' → GotSpan f s c t p n c' t₁
      go (got_span i k) r = record { room = i; takes = k; ready = r }

  pub span-ready : {p n : ℕ} {c' : Cursor} → q ≡ Ok (span_at p n, c') → SpanOf f s c t q t₁ → ReadyAt s c'
  span-ready e h = (span_of e h).ready
