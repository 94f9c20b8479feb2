-- The laws of a list that was read: a count, and so many items.
use Rattle.std.proofs.Common.{ℕ, suc, zero, ◌+◌, ◌≤◌, ◌≡◌, ap, sym, ◌∙◌, List, length}
use Rattle.format.specs.Trace.{out, Ends}
use Rattle.format.specs.Format.{Value, num, number, Rule, count, Format, leaf, seq, chain, times, entries}
use Rattle.format.specs.Reading.{little, part, trace}
use Rattle.format.proofs.TraceTheorems.{seq-ends}
use Rattle.in_place.specs.Walk.{Stands, value_at, next_at, items_at, last_at, AllStand, stand, parts, passed, list-off}

items-last : (f : Format) (n : ℕ) (s : List ℕ) (p : ℕ) {v : Value} {q : ℕ} → Ends (trace (times f n) s p) v q
    → q ≡ last_at f n s p
unfolding chain last_at trace out
items-last f zero s p h = cc
items-last f (suc n) s p h =
    let b = seq-ends f (λ _. times f n) s p h in
    items-last f n s b.mid b.back ∙ ap (last_at f n s) (sym (stand b.fore).next)

-- g is such a list, of f
pub record ListStands (g f : Format) (s : List ℕ) (p : ℕ) : Type 0 where
  pub room : p + 4 ≤ length s
  pub all : AllStand f (little (part s p 4)) s (p + 4)
  pub value : entries (value_at g s p) ≡ items_at f (little (part s p 4)) s (p + 4)
  pub next : next_at g s p ≡ last_at f (little (part s p 4)) s (p + 4)

-- a counted list
abbrev pub listing : Rule → ℕ → ℕ → ℕ → Format → Format
listing r m c z f = seq (leaf (count r m c z)) (λ v. times f (number v))

pub list-stands : {r : Rule} {m c z : ℕ} {f : Format} {s : List ℕ} {p : ℕ} → Stands (listing r m c z f) s p
    → ListStands (listing r m c z f) f s p
list-stands {r} {m} {c} {z} {f} {s} {p} h =
    let o = list-off r m c z f s p h.ends in
    let a = parts h in
    let l = passed a.fore in
    record { room = o.0; all = o.2; value = o.1; next = a.next ∙ go _ _ l.2 l.3 a.back }
  where
    go : (v : Value) (k : ℕ) → v ≡ num (little (part s p 4)) → k ≡ p + 4 → Stands (times f (number v)) s k
        → next_at (times f (number v)) s k ≡ last_at f (little (part s p 4)) s (p + 4)
    go v k e i t = rw (e, i) (items-last f (little (part s p 4)) s (p + 4) (rw (e, i) at t.ends))
