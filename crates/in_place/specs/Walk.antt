-- What a reading left behind in the bytes: the value and the end of a part that stands at a place, and the items of a
-- list one by one.
use Rattle.std.specs.Prelude.{ℕ, suc, zero, ◌+◌, ◌-◌, ◌≤◌, ◌<◌, ◌≡◌, refl, List, [], ◌∷◌, ◌++◌, length}
use Rattle.std.proofs.Common.{ap, sym, ◌∙◌, subst, arith}
use Rattle.format.specs.Trace.{Out, stopped, ended, out, Ends}
use Rattle.format.specs.Format.{Value, none, num, pair, number, first, second, Rule, Leaf, count, Format, leaf, seq, chain, times, items, entries}
use Rattle.format.specs.Reading.{little, part, trace}
use Rattle.format.specs.TraceTheorems.{Passed, Both}
use Rattle.format.proofs.TraceTheorems.{leaf-ends, seq-ends}

abbrev value_of : Out Value → Value
value_of (stopped w p) = none
value_of (ended v q) = v

abbrev place_of : Out Value → ℕ
place_of (stopped w p) = p
place_of (ended v q) = q

-- the value of f at p, and the place past it
unfoldable pub value_at : Format → List ℕ → ℕ → Value
value_at f s p = value_of (out (trace f s p))

unfoldable pub next_at : Format → List ℕ → ℕ → ℕ
next_at f s p = place_of (out (trace f s p))

-- f was read at p
pub record Stands (f : Format) (s : List ℕ) (p : ℕ) : Type 0 where
  pub ends : Ends (trace f s p) (value_at f s p) (next_at f s p)

pub record At (f : Format) (s : List ℕ) (p : ℕ) (v : Value) (q : ℕ) : Type 0 where
  pub stands : Stands f s p
  pub value : value_at f s p ≡ v
  pub next : next_at f s p ≡ q

pub stand : {f : Format} {s : List ℕ} {p : ℕ} {v : Value} {q : ℕ} → Ends (trace f s p) v q → At f s p v q
unfolding value_at next_at
stand e = let x = ap value_of e in let y = ap place_of e in record { stands = record { ends = e ∙ cc }; value = x; next = y }

-- a sequence stands where its parts do
pub record Parts (f : Format) (g : Value → Format) (s : List ℕ) (p : ℕ) : Type 0 where
  pub fore : Stands f s p
  pub back : Stands (g (value_at f s p)) s (next_at f s p)
  pub next : next_at (seq f g) s p ≡ next_at (g (value_at f s p)) s (next_at f s p)
  pub value : value_at (seq f g) s p ≡ pair (value_at f s p) (value_at (g (value_at f s p)) s (next_at f s p))

pub parts : {f : Format} {g : Value → Format} {s : List ℕ} {p : ℕ} → Stands (seq f g) s p → Parts f g s p
parts {f} {g} {s} {p} h = go (value_at (seq f g) s p) (next_at (seq f g) s p) refl refl (seq-ends f g s p h.ends)
  where
    go : (v : Value) (q : ℕ) → value_at (seq f g) s p ≡ v → next_at (seq f g) s p ≡ q → Both f g s p v q → Parts f g s p
    go v q ev eq b =
        let a = stand b.fore in
        let x : first v ≡ value_at f s p = sym a.value in
        let y : b.mid ≡ next_at f s p = sym a.next in
        let z : At (g (value_at f s p)) s (next_at f s p) (second v) q = stand (rw (x, y) at b.back) in
        record { fore = a.stands; back = z.stands; next = eq ∙ sym z.next; value = ev ∙ b.whole ∙ rw (x, z.value) }

-- a leaf
pub passed : {l : Leaf} {s : List ℕ} {p : ℕ} → Stands (leaf l) s p
    → Passed l s p (value_at (leaf l) s p) (next_at (leaf l) s p)
unfolding trace
passed {l} {s} {p} h = leaf-ends l s p h.ends

-- the items of a list

unfoldable pub items_at : Format → ℕ → List ℕ → ℕ → List Value
items_at f zero s p = []
items_at f (suc n) s p = value_at f s p ∷ items_at f n s (next_at f s p)

unfoldable pub last_at : Format → ℕ → List ℕ → ℕ → ℕ
last_at f zero s p = p
last_at f (suc n) s p = last_at f n s (next_at f s p)

unfoldable pub AllStand : Format → ℕ → List ℕ → ℕ → Type 0
AllStand f zero s p = Unit {0}
AllStand f (suc n) s p = Stands f s p × AllStand f n s (next_at f s p)

-- a list that was read, off its bytes
pub items-off : (f : Format) (n : ℕ) (s : List ℕ) (p : ℕ) {v : Value} {q : ℕ} → Ends (trace (times f n) s p) v q
    → (items n v ≡ items_at f n s p) × AllStand f n s p
unfolding chain items items_at AllStand
items-off f zero s p h = (refl, tt)
items-off f (suc n) s p {v} {q} h =
    let b = seq-ends f (λ _. times f n) s p h in
    let a = stand b.fore in
    let i = items-off f n s b.mid b.back in
    let y : b.mid ≡ next_at f s p = sym a.next in
    (rw (a.value, ← y, i.0), (a.stands, subst (AllStand f n s) y i.1))

pub list-off : (r : Rule) (m c z : ℕ) (f : Format) (s : List ℕ) (p : ℕ) {v : Value} {q : ℕ}
    → Ends (trace (seq (leaf (count r m c z)) (λ v. times f (number v))) s p) v q
    → (p + 4 ≤ length s) × (entries v ≡ items_at f (little (part s p 4)) s (p + 4)) × AllStand f (little (part s p 4)) s (p + 4)
unfolding trace
list-off r m c z f s p {v} {q} h =
    let b = seq-ends (leaf (count r m c z)) (λ v. times f (number v)) s p h in
    let l = leaf-ends (count r m c z) s p b.fore in
    go (first v) (second v) b.mid l.2 l.3 b.back (omega (arith, l.0))
  where
    go : (a w : Value) (k : ℕ) → a ≡ num (little (part s p 4)) → k ≡ p + 4 → Ends (trace (times f (number a)) s k) w q
        → p + 4 ≤ length s
        → (p + 4 ≤ length s) × (items (number a) w ≡ items_at f (little (part s p 4)) s (p + 4)) × AllStand f (little (part s p 4)) s (p + 4)
    go a w k e i h j = let x = items-off f (little (part s p 4)) s (p + 4) (rw (e, i) at h) in (j, rw e x.0, x.1)

-- one item more, from either end

pub items_more : (f : Format) (k : ℕ) (s : List ℕ) (p : ℕ) → 0 < k
    → items_at f k s p ≡ value_at f s p ∷ items_at f (k - 1) s (next_at f s p)
unfolding items_at
items_more f zero s p h = absurd (omega arith)
items_more f (suc k) s p h = let e : suc k - 1 ≡ k = omega arith in rw e

pub items-none : (f : Format) (k : ℕ) (s : List ℕ) (p : ℕ) → k ≤ 0 → items_at f k s p ≡ []
unfolding items_at
items-none f zero s p h = refl
items-none f (suc k) s p h = absurd (omega arith)

pub stand-more : (f : Format) (k : ℕ) (s : List ℕ) (p : ℕ) → 0 < k → AllStand f k s p
    → Stands f s p × AllStand f (k - 1) s (next_at f s p)
unfolding AllStand
stand-more f zero s p h a = absurd (omega arith)
stand-more f (suc k) s p h a = let e : suc k - 1 ≡ k = omega arith in (a.0, rw e a.1)

pub items-snoc : (f : Format) (i : ℕ) (s : List ℕ) (p : ℕ)
    → items_at f (suc i) s p ≡ items_at f i s p ++ (value_at f s (last_at f i s p) ∷ [])
unfolding items_at last_at
items-snoc f zero s p = refl
items-snoc f (suc i) s p = ap (λ (l : List Value). value_at f s p ∷ l) (items-snoc f i s (next_at f s p))

pub last_snoc : (f : Format) (i : ℕ) (s : List ℕ) (p : ℕ) → last_at f (suc i) s p ≡ next_at f s (last_at f i s p)
unfolding last_at
last_snoc f zero s p = refl
last_snoc f (suc i) s p = last_snoc f i s (next_at f s p)

pub stand-snoc : (f : Format) (i : ℕ) (s : List ℕ) (p : ℕ) → AllStand f i s p → Stands f s (last_at f i s p)
    → AllStand f (suc i) s p
unfolding AllStand last_at
stand-snoc f zero s p a h = (h, tt)
stand-snoc f (suc i) s p a h = (a.0, stand-snoc f i s (next_at f s p) a.1 h)

pub items-nil : (f : Format) (s : List ℕ) (p : ℕ) → (items_at f 0 s p ≡ []) × AllStand f 0 s p × (last_at f 0 s p ≡ p)
unfolding items_at AllStand last_at
items-nil f s p = (refl, tt, refl)

pub items-length : (f : Format) (n : ℕ) (s : List ℕ) (p : ℕ) → length (items_at f n s p) ≡ n
unfolding items_at
items-length f zero s p = refl
items-length f (suc n) s p = ap suc (items-length f n s (next_at f s p))
