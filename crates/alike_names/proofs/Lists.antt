-- The laws of lists that were read, and of the place past their items.
use Rattle.std.proofs.Common.{ℕ, suc, zero, ◌+◌, ◌-◌, ◌≤◌, ◌<◌, ◌≡◌, refl, ap, sym, ◌∙◌, List, arith, T, length}
use Rattle.format.specs.Format.{Value, first, second, Ask, Rule, Format, seq, ◌▸◌, entries}
use Rattle.format.specs.Reading.{little, part}
use Rattle.format.specs.Layout.{clear}
use Rattle.format.proofs.TraceTheorems.{trace-within}
use Rattle.vob24.specs.Grammar.{asking}
use Rattle.in_place.specs.Walk.{Stands, value_at, next_at, items_at, last_at, AllStand, parts, passed}
use Rattle.in_place.specs.Contract.{WordIs, Placed}
use Rattle.in_place.proofs.Walking.{Leaving}
use Rattle.in_place.proofs.Lists.{ListStands, listing, list-stands}

-- a part that stands ends in the pack
pub next-within : {f : Format} {s : List ℕ} {p : ℕ} → Stands f s p
    → (p ≤ next_at f s p) × (p ≤ length s → next_at f s p ≤ length s)
next-within {f} {s} {p} h = trace-within f s p h.ends

-- what stands at q behind the first part of an h at p
pub record Behind (h g : Format) (s : List ℕ) (p q : ℕ) : Type 0 where
  pub stands : Stands g s q
  pub next : next_at h s p ≡ next_at g s q
  pub value : second (value_at h s p) ≡ value_at g s q

pub behind : {f g : Format} {s : List ℕ} {p q : ℕ} → next_at f s p ≡ q → Stands (f ▸ g) s p → Behind (f ▸ g) g s p q
behind e h = let a = parts h in rw (← e) (record { stands = a.back; next = a.next; value = ap second a.value })

-- a g that is such a list and a question on its entries, which was passed
pub record AskedStands (g f : Format) (l : List Value → List Ask) (s : List ℕ) (p : ℕ) : Type 0 where
  pub room : p + 4 ≤ length s
  pub all : AllStand f (little (part s p 4)) s (p + 4)
  pub value : entries (first (value_at g s p)) ≡ items_at f (little (part s p 4)) s (p + 4)
  pub next : next_at g s p ≡ last_at f (little (part s p 4)) s (p + 4)
  pub passes : T (clear (l (items_at f (little (part s p 4)) s (p + 4))))

pub asked-stands : {r : Rule} {m c z : ℕ} {f : Format} (l : List Value → List Ask) {s : List ℕ} {p : ℕ}
    → Stands (seq (listing r m c z f) (λ v. asking (l (entries v)))) s p
    → AskedStands (seq (listing r m c z f) (λ v. asking (l (entries v)))) f l s p
asked-stands l h =
    let a = parts h in
    let b = list-stands a.fore in
    let x = passed a.back in
    record {
      room = b.room;
      all = b.all;
      value = ap (λ v. entries (first v)) a.value ∙ b.value;
      next = a.next ∙ x.2 ∙ b.next;
      passes = rw b.value at x.0;
    }

-- a walk past its items
pub leaving-list : {g f : Format} {s : List ℕ} {p n : ℕ} → Placed g s p → ListStands g f s p → WordIs s p n
    → Leaving f s (next_at g s p) (p + 4) (n - 0)
leaving-list {n = n} h l w = let e : n - 0 ≡ n = omega arith in rw (e, w.is) (record { items = record { small = h.small; all = l.all }; last = l.next })
