-- The sum of a reading's charges as a function of the value that was read.
use Rattle.std.specs.Prelude.{ℕ, suc, zero, ◌+◌, ◌≡◌, refl, List, [], ◌∷◌, Bool, true, false}
use Rattle.std.proofs.Common.{◌∙◌, arith}
use Rattle.format.specs.Trace.{Wrong, Trace, stop, end, charge, needs, bind, guard, amounts, sum, total, out, Ends}
use Rattle.format.specs.Format.{Value, num, text, first, Ask, pay, deny, Leaf, fixed, mark, packed, string, payload, count, ask, Format, empty, leaf, seq}
use Rattle.format.specs.Reading.{little, part, room, field, packed_step, trace_packed, trace_ask, trace_leaf, trace}
use Rattle.format.proofs.TraceTheorems.{Ends-guard, part_length, room-ends, field-ends, seq-ends}
use Rattle.format.specs.ChargeSums.{charges_ask, charges_leaf, charges}

-- no charge at all
pub free-guard : {A : Type 0} (d : Bool) (w : Wrong) (p : ℕ) (t : Trace A) → total t ≡ 0 → total (guard d w p t) ≡ 0
unfolding guard amounts sum
free-guard true w p t h = h
free-guard false w p t h = refl

pub free-bind : {A B : Type 0} (t : Trace A) (k : A → ℕ → Trace B) → total t ≡ 0 → ((v : A) (q : ℕ) → total (k v q) ≡ 0)
    → total (bind t k) ≡ 0
unfolding bind amounts sum
free-bind (stop w p) k h g = refl
free-bind (end a p) k h g = g a p
free-bind (charge c n p t) k h g = omega (arith, free-bind t k (omega arith) g)
free-bind (needs n p t) k h g = free-bind t k h g

free_step : (d : Bool) (m b p : ℕ) (t : Trace ℕ) → total t ≡ 0 → total (packed_step d m b p t) ≡ 0
unfolding packed_step amounts sum
free_step true m b p t h = free-guard _ _ _ _ refl
free_step false m b p t h = free-bind _ _ h (λ n q. refl)

pub packed-free : (k m : ℕ) (s : List ℕ) (p : ℕ) → total (trace_packed k m s p) ≡ 0
unfolding trace_packed field room amounts sum
packed-free zero m s p = free-guard _ _ _ _ (free-guard _ _ _ _ (free-guard _ _ _ _ refl))
packed-free (suc k) m s p = free-guard _ _ _ _ (free_step _ _ _ _ _ (packed-free k 1 s (p + 1)))

ask-charges : (l : List Ask) (p : ℕ) {v : Value} {q : ℕ} → Ends (trace_ask l p) v q → total (trace_ask l p) ≡ charges_ask l
unfolding out trace_ask amounts sum charges_ask
ask-charges [] p h = refl
ask-charges (pay c n ∷ l) p h = omega (arith, ask-charges l p h)
ask-charges (deny w ∷ l) p h = let z : ◌≡◌ {A = ℕ} 0 1 = cc in absurd (omega arith)

leaf-charges : (l : Leaf) (s : List ℕ) (p : ℕ) {v : Value} {q : ℕ} → Ends (trace_leaf l s p) v q
    → total (trace_leaf l s p) ≡ charges_leaf l v
unfolding trace_leaf charges_leaf out amounts sum
leaf-charges (fixed w r) s p h =
    let a = field-ends _ s p _ h in
    a.2 ∙ (Ends-guard _ _ _ _ a.1).2
leaf-charges (mark m y) s p h =
    let a = field-ends _ s p _ h in
    a.2 ∙ (Ends-guard _ _ _ _ a.1).2
leaf-charges packed s p h = free-bind _ _ (packed-free 4 0 s p) (λ n q. refl)
leaf-charges (string r c ok) s p {v} h =
    let a = field-ends _ s p _ h in
    let b = Ends-guard _ _ _ _ a.1 in
    let e = field-ends _ s (p + 4) _ b.1 in
    let g = Ends-guard _ _ _ _ e.1 in
    let x : v ≡ text (p + 4) (part s (p + 4) (little (part s p 4))) = cc in
    a.2 ∙ b.2 ∙ e.2 ∙ rw x (omega (arith, g.2, part_length s (p + 4) (little (part s p 4)) e.0))
leaf-charges (payload r c) s p {v} h =
    let a = field-ends _ s p _ h in
    let b = Ends-guard _ _ _ _ a.1 in
    let e = field-ends _ s (p + 4) _ b.1 in
    let x : v ≡ text (p + 4) (part s (p + 4) (little (part s p 4))) = cc in
    a.2 ∙ b.2 ∙ e.2 ∙ rw x (omega (arith, part_length s (p + 4) (little (part s p 4)) e.0))
leaf-charges (count r m c z) s p {v} h =
    let a = field-ends _ s p _ h in
    let b = Ends-guard _ _ _ _ a.1 in
    let e = room-ends _ s (p + 4) _ b.1 in
    let x : v ≡ num (little (part s p 4)) = cc in
    a.2 ∙ b.2 ∙ e.2 ∙ rw x (omega arith)
leaf-charges (ask l) s p h = ask-charges l p h

-- The charge list of a reading that ends sums up to the charges put to its value.
pub trace-charges : (f : Format) (s : List ℕ) (p : ℕ) {v : Value} {q : ℕ} → Ends (trace f s p) v q
    → total (trace f s p) ≡ charges f v
unfolding trace charges amounts sum
trace-charges empty s p h = refl
trace-charges (leaf l) s p h = leaf-charges l s p h
trace-charges (seq f g) s p {v} {q} h = let r = seq-ends f g s p h in r.sums ∙ omega (arith, trace-charges f s p r.fore, trace-charges (g (first v)) s r.mid r.back)
