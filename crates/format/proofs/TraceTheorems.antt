-- What is known of a reading that ends: leaf by leaf, then over any format.
use Rattle.std.specs.Prelude.{ℕ, suc, zero, ◌+◌, ◌-◌, ◌*◌, ◌≤◌, ◌≡◌, refl, List, [], ◌∷◌, Bool, true, false, length, T, leb}
use Rattle.std.proofs.Common.{ap, ◌∙◌, subst₂, arith, length-append, length-take, length-drop, leb→le}
use Rattle.std.proofs.Math.Path.{fun_ext}
use Rattle.format.specs.Trace.{Wrong, wrong, unexpected_eof, Trace, stop, end, charge, needs, bind, guard, amounts, sum, total, out, Ends, taken, settle}
use Rattle.format.specs.Format.{Value, none, num, pair, number, first, Width, byte, half, word, long, option, Ask, pay, deny, Leaf, fixed, mark, packed, string, payload, count, ask, Format, empty, leaf, seq}
use Rattle.format.specs.Reading.{part, size, room, field, packed_step, trace_packed, trace_ask, trace_leaf, trace}
use Rattle.format.specs.Record.{shown, words_leaf, words}
use Rattle.format.specs.Layout.{clear}
use Rattle.format.specs.SettleTheorems.{then_s, settle-bind}
use Rattle.format.specs.TraceTheorems.{Passed, Both, Stepped, last, more, Slim}

-- The parts of a trace that ends.
pub Ends-bind : {A B : Type 0} (t : Trace A) (k : A → ℕ → Trace B) {w : B} {r : ℕ} → Ends (bind t k) w r
    → (v : A) × (q : ℕ) × Ends t v q × Ends (k v q) w r
unfolding out bind
Ends-bind (stop w p) k h = let z : ◌≡◌ {A = ℕ} 0 1 = cc in absurd (omega arith)
Ends-bind (end a p) k h = (a, p, refl, h)
Ends-bind (charge c n p t) k h = Ends-bind t k h
Ends-bind (needs n p t) k h = Ends-bind t k h

-- a part that ends may be read over: the rest goes on from its value and place
pub bind-out : {A B : Type 0} (t : Trace A) (k : A → ℕ → Trace B) {v : A} {q : ℕ} → Ends t v q
    → (out (bind t k) ≡ out (k v q)) × (total (bind t k) ≡ total t + total (k v q))
unfolding out bind amounts sum
bind-out (stop w p) k h = let z : ◌≡◌ {A = ℕ} 0 1 = cc in absurd (omega arith)
bind-out (end a p) k {v} {q} h = let x : k a p ≡ k v q = cc in (rw x, rw x (omega arith))
bind-out (charge c n p t) k h = let r = bind-out t k h in (r.0, omega arith)
bind-out (needs n p t) k h = bind-out t k h

pub Ends-guard : {A : Type 0} (d : Bool) (w : Wrong) (p : ℕ) (t : Trace A) {v : A} {q : ℕ} → Ends (guard d w p t) v q
    → T d × Ends t v q × (total (guard d w p t) ≡ total t)
unfolding out guard
Ends-guard true w p t h = (tt, h, refl)
Ends-guard false w p t h = let z : ◌≡◌ {A = ℕ} 0 1 = cc in absurd (omega arith)

pub guard-true : {A : Type 0} (d : Bool) (w : Wrong) (p : ℕ) (t : Trace A) → T d → guard d w p t ≡ t
unfolding guard
guard-true true w p t h = refl
guard-true {A = A} false w p t h = elim h [ ]

pub part_length : (s : List ℕ) (p n : ℕ) → p + n ≤ length s → length (part s p n) ≡ n
part_length s p n h = simp (length-take, length-drop) (omega arith)

-- a field whose bytes are there
pub room-ends : {A : Type 0} (n : ℕ) (s : List ℕ) (p : ℕ) (t : Trace A) {v : A} {q : ℕ} → Ends (room n s p t) v q
    → (n ≤ length s) × Ends t v q × (total (room n s p t) ≡ total t)
unfolding room out amounts
room-ends n s p t h = let r = Ends-guard (leb n (length s)) (wrong unexpected_eof 0) p (needs n p t) h in (leb→le _ _ r.0, r.1, r.2)

pub field-ends : {A : Type 0} (n : ℕ) (s : List ℕ) (p : ℕ) (k : List ℕ → Trace A) {v : A} {q : ℕ}
    → Ends (field n s p k) v q
    → (p + n ≤ length s) × Ends (k (part s p n)) v q × (total (field n s p k) ≡ total (k (part s p n)))
unfolding field
field-ends n s p k h = room-ends (p + n) s p (k (part s p n)) h

pub ask-ends : (l : List Ask) (p : ℕ) {v : Value} {q : ℕ} → Ends (trace_ask l p) v q → T (clear l) × (v ≡ none) × (q ≡ p)
unfolding out trace_ask clear
ask-ends [] p h = (tt, cc, cc)
ask-ends (pay c n ∷ l) p h = ask-ends l p h
ask-ends (deny w ∷ l) p h = let z : ◌≡◌ {A = ℕ} 0 1 = cc in absurd (omega arith)

pub leaf-ends : (l : Leaf) (s : List ℕ) (p : ℕ) {v : Value} {q : ℕ} → Ends (trace_leaf l s p) v q → Passed l s p v q
unfolding trace_leaf out
leaf-ends (fixed w r) s p h =
    let a = field-ends _ s p _ h in
    let b = Ends-guard _ _ _ _ a.1 in
    (a.0, b.0, cc, cc)
leaf-ends (mark m y) s p h =
    let a = field-ends _ s p _ h in
    let b = Ends-guard _ _ _ _ a.1 in
    (a.0, b.0, cc, cc)
leaf-ends packed s p h = let r = Ends-bind (trace_packed 4 0 s p) (λ n q. end (num n) q) h in (r.0, r.2 ∙ cc, cc)
leaf-ends (string r c ok) s p h =
    let a = field-ends _ s p _ h in
    let b = Ends-guard _ _ _ _ a.1 in
    let e = field-ends _ s (p + 4) _ b.1 in
    let g = Ends-guard _ _ _ _ e.1 in
    (e.0, b.0, g.0, cc, cc)
leaf-ends (payload r c) s p h =
    let a = field-ends _ s p _ h in
    let b = Ends-guard _ _ _ _ a.1 in
    let e = field-ends _ s (p + 4) _ b.1 in
    (e.0, b.0, cc, cc)
leaf-ends (count r m c z) s p h =
    let a = field-ends _ s p _ h in
    let b = Ends-guard _ _ _ _ a.1 in
    let e = room-ends _ s (p + 4) _ b.1 in
    (e.0, b.0, cc, cc)
leaf-ends (ask l) s p h = ask-ends l p h

-- a sequence is read where its parts are
pub seq-read : (f : Format) (g : Value → Format) (s : List ℕ) (p : ℕ) {a b : Value} {m q : ℕ} → Ends (trace f s p) a m
    → Ends (trace (g a) s m) b q → Ends (trace (seq f g) s p) (pair a b) q × Both f g s p (pair a b) q
unfolding trace out amounts sum
seq-read f g s p {a} {b} {m} {q} h k =
    let x = bind-out (trace f s p) (λ v q. bind (trace (g v) s q) (λ w r. end (pair v w) r)) h in
    let y = bind-out (trace (g a) s m) (λ w r. end (pair a w) r) k in
    (x.0 ∙ y.0, record { mid = m; fore = h; back = k; whole = refl; sums = omega (arith, x.1, y.1) })

pub seq-ends : (f : Format) (g : Value → Format) (s : List ℕ) (p : ℕ) {v : Value} {q : ℕ}
    → Ends (trace (seq f g) s p) v q → Both f g s p v q
unfolding trace out
seq-ends f g s p {v} {q} h =
    let a = Ends-bind (trace f s p) (λ v q. bind (trace (g v) s q) (λ w r. end (pair v w) r)) h in
    let b = Ends-bind (trace (g a.0) s a.1) (λ w r. end (pair a.0 w) r) a.3 in
    subst₂ (Both f g s p) (cc) (cc) (seq-read f g s p a.2 b.2).1

pub stepped : (d : Bool) (m b p : ℕ) (t : Trace ℕ) {n q : ℕ} → Ends (packed_step d m b p t) n q → Stepped d m b p t n q
unfolding packed_step out
stepped true m b p t h = let a = Ends-guard _ _ _ _ h in last tt (leb→le _ _ a.0) (cc) (cc)
stepped false m b p t {n} {q} h = let a = Ends-bind t (λ n q. end (b - 128 + 128 * n) q) h in more tt a.0 (a.2 ∙ cc) (cc)

pub packed-place : (k m : ℕ) (s : List ℕ) (p : ℕ) {n q : ℕ} → Ends (trace_packed k m s p) n q
    → (p + 1 ≤ q) × (q ≤ length s)
unfolding trace_packed out
packed-place zero m s p {n} {q} h =
    let a = field-ends _ s p _ h in
    let b = Ends-guard _ _ _ _ a.1 in
    let c = Ends-guard _ _ _ _ b.1 in
    let x : q ≡ p + 1 = cc in
    (omega arith, omega arith)
packed-place (suc k) m s p {n} {q} h = let a = field-ends _ s p _ h in go a.0 (stepped _ _ _ _ _ a.1) (λ x. packed-place k 1 s (p + 1))
  where
    go : {d : Bool} {b : ℕ} → p + 1 ≤ length s → Stepped d m b (p + 1) (trace_packed k 1 s (p + 1)) n q
        → ((x : ℕ) → Ends (trace_packed k 1 s (p + 1)) x q → (p + 1 + 1 ≤ q) × (q ≤ length s))
        → (p + 1 ≤ q) × (q ≤ length s)
    go f (last u x y z) i = (omega arith, omega arith)
    go f (more u x e y) i = let r = i x e in (omega arith, omega arith)

-- Places stay within the pack: a reading never goes back, nor past the end.
leaf-within : (l : Leaf) (s : List ℕ) (p : ℕ) (v : Value) (q : ℕ) → Passed l s p v q
    → (p ≤ q) × (p ≤ length s → q ≤ length s)
leaf-within (fixed w r) s p v q h = (omega arith, λ x. omega arith)
leaf-within (mark m y) s p v q h = (omega arith, λ x. omega arith)
leaf-within packed s p v q h = let r = packed-place 4 0 s p h.1 in (omega arith, λ x. r.1)
leaf-within (string r c ok) s p v q h = (omega arith, λ x. omega arith)
leaf-within (payload r c) s p v q h = (omega arith, λ x. omega arith)
leaf-within (count r m c z) s p v q h = (omega arith, λ x. omega arith)
leaf-within (ask l) s p v q h = (omega arith, λ x. omega arith)

pub trace-within : (f : Format) (s : List ℕ) (p : ℕ) {v : Value} {q : ℕ} → Ends (trace f s p) v q
    → (p ≤ q) × (p ≤ length s → q ≤ length s)
unfolding trace out
trace-within empty s p {v} {q} h = let x : q ≡ p = cc in (omega arith, λ y. omega arith)
trace-within (leaf l) s p h = leaf-within l s p _ _ (leaf-ends l s p h)
trace-within (seq f g) s p {v} {q} h =
    let r = seq-ends f g s p h in
    let a = trace-within f s p r.fore in
    let b = trace-within (g (first v)) s r.mid r.back in
    (omega arith, λ x. b.1 (a.1 x))

slim-leaf : (l : Leaf) → Slim (leaf l)
unfolding trace words words_leaf
slim-leaf l = record { most = λ s p {v} {q} h. go l s p v q (leaf-ends l s p h) }
  where
    shorter : (w : Width) (p n : ℕ) → p + length (shown w n) ≤ p + size w
    shorter byte p n = omega arith
    shorter half p n = omega arith
    shorter word p n = omega arith
    shorter long p n = omega arith
    shorter option p n = omega arith

    go : (l : Leaf) (s : List ℕ) (p : ℕ) (v : Value) (q : ℕ) → Passed l s p v q → p + length (words_leaf l v) ≤ q
    go (fixed w r) s p v q h = omega (arith, shorter w p (number v))
    go (mark m y) s p v q h = omega arith
    go packed s p v q h = omega (arith, packed-place 4 0 s p h.1)
    go (string r c ok) s p v q h = omega arith
    go (payload r c) s p v q h = omega arith
    go (count r m c z) s p v q h = omega arith
    go (ask l) s p v q h = omega arith

slim-seq : {f : Format} {g : Value → Format} → Slim f → ((v : Value) → Slim (g v)) → Slim (seq f g)
unfolding words
slim-seq {f} {g} a b = record { most = λ s p {v} h. let r = seq-ends f g s p h in rw length-append (omega (arith, a.most s p r.fore, (b (first v)).most s r.mid r.back)) }

-- Every leaf has it, so every format has.
pub slim : (f : Format) → Slim f
unfolding trace words out
slim empty = record { most = λ s p {v} {q} h. let x : q ≡ p = cc in omega arith }
slim (leaf l) = slim-leaf l
slim (seq f g) = slim-seq (slim f) (λ v. slim (g v))

-- A sequence under a budget.
pub settle-seq : (b : ℕ) (f : Format) (g : Value → Format) (s : List ℕ) (p : ℕ)
    → settle b (trace (seq f g) s p) ≡ then_s (settle b (trace f s p)) (λ v q l. then_s (settle l (trace (g v) s q)) (λ w r m. taken (pair v w) r m))
unfolding trace settle
settle-seq b f g s p = settle-bind b (trace f s p) _ ∙ ap (λ k. then_s (settle b (trace f s p)) k) (fun_ext (λ v. fun_ext (λ q. fun_ext (λ l. settle-bind l (trace (g v) s q) _))))
