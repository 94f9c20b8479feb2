-- Theorems on charges and budgets: what a budget covers, when a trace is taken, and where it breaks off.
use Rattle.std.specs.Prelude.{ℕ, suc, zero, ◌+◌, ◌-◌, ◌≤◌, ◌<◌, ◌≡◌, refl, List, [], ◌∷◌, Bool, true, false, not, ◌↔◌, T, leb, length, take}
use Rattle.std.proofs.Common.{ap, sym, ◌∙◌, arith, leb→le, le→leb}
use Rattle.std.proofs.Math.Dec.{nleb→lt}
use Rattle.format.specs.Trace.{Charge, here, later, past, Wrong, Trace, stop, end, charge, needs, bind, amounts, sum, total, stopped, out, Ends, Settled, refused, taken, left, pick, spent, settle, covered, Longest, finish, broke}

-- a budget that reaches the total: every charge goes through
pub settle-reached : {A : Type 0} (b : ℕ) (t : Trace A) → total t ≤ b → settle b t ≡ finish (b - total t) t
unfolding settle finish amounts sum pick
settle-reached b (stop w p) h = ap (refused w p) (omega arith)
settle-reached b (end a p) h = ap (taken a p) (omega arith)
settle-reached b (charge c n p t) h = go (leb n b) (le→leb n b (omega arith)) (settle-reached (b - n) t (omega arith))
  where
    go : (d : Bool) → T d → settle (b - n) t ≡ finish (b - n - total t) t
        → pick d (settle (b - n) t) (refused (spent c n b) p b) ≡ finish (b - (n + total t)) t
    go true x e = e ∙ ap (λ k. finish k t) (omega arith)
    go false x e = elim x [ ]
settle-reached b (needs n p t) h = settle-reached b t h

pub covered-longest : (b : ℕ) (ns : List ℕ) → Longest b ns (covered b ns)
unfolding covered sum pick
covered-longest b [] = record { there = omega arith; fits = omega arith; most = λ i h _. omega arith }
covered-longest b (n ∷ ns) = go (leb n b) (leb→le n b) (nleb→lt n b) (covered-longest (b - n) ns)
  where
    more : (n ≤ b) → (r : Longest (b - n) ns (covered (b - n) ns)) (i : ℕ) → i ≤ suc (length ns)
        → sum (take i (n ∷ ns)) ≤ b → i ≤ suc (covered (b - n) ns)
    more y r zero h g = omega arith
    more y r (suc i) h g = omega (arith, r.most i (omega arith) (omega arith))

    none : b < n → (i : ℕ) → i ≤ suc (length ns) → sum (take i (n ∷ ns)) ≤ b → i ≤ 0
    none x zero h g = omega arith
    none x (suc i) h g = absurd (omega arith)

    go : (d : Bool) → (T d → n ≤ b) → (T (not d) → b < n) → Longest (b - n) ns (covered (b - n) ns)
        → Longest b (n ∷ ns) (pick d (suc (covered (b - n) ns)) 0)
    go true y x r = record { there = omega (arith, r.there); fits = omega (arith, r.fits, y tt); most = more (y tt) r }
    go false y x r = record { there = omega arith; fits = omega arith; most = none (x tt) }

-- a budget below the total: refused at the first charge that the budget does not cover
pub settle-broke : {A : Type 0} (b : ℕ) (t : Trace A) → b < total t
    → settle b t ≡ broke (covered b (amounts t)) (b - sum (take (covered b (amounts t)) (amounts t))) t
unfolding settle broke amounts sum pick covered
settle-broke b (stop w p) h = absurd (omega arith)
settle-broke b (end a p) h = absurd (omega arith)
settle-broke {A} b (charge c n p t) h = go (leb n b) (leb→le n b) (settle-broke (b - n) t)
  where
    k : ℕ
    k = covered (b - n) (amounts t)

    go : (d : Bool) → (T d → n ≤ b)
        → (b - n < total t → settle (b - n) t ≡ broke k (b - n - sum (take k (amounts t))) t)
        → pick d (settle (b - n) t) (refused (spent c n b) p b) ≡ broke (pick d (suc k) 0) (b - sum (take (pick d (suc k) 0) (n ∷ amounts t))) (charge c n p t)
    go true y e = let x : n ≤ b = y tt in e (omega arith) ∙ ap (λ i. broke {A = A} k i t) (omega arith)
    go false y e = ap {B = Settled A} (λ i. refused (spent c n i) p i) (omega arith)
settle-broke b (needs n p t) h = settle-broke b t h

-- charged and left make the budget, taken or refused
pub settle-left : {A : Type 0} (b : ℕ) (t : Trace A)
    → sum (take (covered b (amounts t)) (amounts t)) + left (settle b t) ≡ b
unfolding settle amounts sum pick covered left
settle-left b (stop w p) = omega arith
settle-left b (end a p) = omega arith
settle-left b (charge c n p t) = go (leb n b) (leb→le n b) (settle-left (b - n) t)
  where
    k : ℕ
    k = covered (b - n) (amounts t)

    go : (d : Bool) → (T d → n ≤ b) → sum (take k (amounts t)) + left (settle (b - n) t) ≡ b - n
        → sum (take (pick d (suc k) 0) (n ∷ amounts t)) + left (pick d (settle (b - n) t) (refused (spent c n b) p b)) ≡ b
    go true y e = let x : n ≤ b = y tt in omega arith
    go false y e = omega arith
settle-left b (needs n p t) = settle-left b t

-- taken exactly where the trace ends and the budget reaches the total; the same value and place under any such budget
pub ends-finish : {A : Type 0} (t : Trace A) (b : ℕ) {v : A} {q : ℕ} → Ends t v q → finish b t ≡ taken v q b
unfolding out finish
ends-finish (stop w p) b h = cc
ends-finish (end a p) b h = cc
ends-finish (charge c n p t) b h = ends-finish t b h
ends-finish (needs n p t) b h = ends-finish t b h

pub finish-ends : {A : Type 0} (t : Trace A) (b : ℕ) {v : A} {q l : ℕ} → finish b t ≡ taken v q l → Ends t v q × (b ≡ l)
unfolding out finish
finish-ends (stop w p) b h = (cc, cc)
finish-ends (end a p) b h = (cc, cc)
finish-ends (charge c n p t) b h = finish-ends t b h
finish-ends (needs n p t) b h = finish-ends t b h

pub broke-not-taken : {A : Type 0} (i b : ℕ) (t : Trace A) (v : A) (q l : ℕ) → i < length (amounts t)
    → broke i b t ≡ taken v q l → ⊥
unfolding broke amounts
broke-not-taken i b (stop w p) v q l g h = omega arith
broke-not-taken i b (end a p) v q l g h = omega arith
broke-not-taken zero b (charge c n p t) v q l g h = let z : ◌≡◌ {A = ℕ} 0 1 = cc in omega arith
broke-not-taken (suc i) b (charge c n p t) v q l g h = broke-not-taken i b t v q l (omega arith) h
broke-not-taken i b (needs n p t) v q l g h = broke-not-taken i b t v q l g h

pub covered-lt : (b : ℕ) (ns : List ℕ) → b < sum ns → covered b ns < length ns
unfolding covered sum pick
covered-lt b [] h = omega arith
covered-lt b (n ∷ ns) h = go (leb n b) (leb→le n b) (covered-lt (b - n) ns)
  where
    go : (d : Bool) → (T d → n ≤ b) → (b - n < sum ns → covered (b - n) ns < length ns)
        → pick d (suc (covered (b - n) ns)) 0 < suc (length ns)
    go true y e = let x : n ≤ b = y tt in omega (arith, e (omega arith))
    go false y e = omega arith

pub settle-taken : {A : Type 0} (b : ℕ) (t : Trace A) (v : A) (q l : ℕ)
    → settle b t ≡ taken v q l ↔ Ends t v q × (total t ≤ b) × (l ≡ b - total t)
settle-taken b t v q l = (to, from)
  where
    short : total t ≤ b → settle b t ≡ taken v q l → Ends t v q × (total t ≤ b) × (l ≡ b - total t)
    short g h = let r = finish-ends t (b - total t) (sym (settle-reached b t g) ∙ h) in (r.0, g, sym r.1)

    go : (d : Bool) → (T d → total t ≤ b) → (T (not d) → b < total t) → settle b t ≡ taken v q l
        → Ends t v q × (total t ≤ b) × (l ≡ b - total t)
    go true y x h = short (y tt) h
    go false y x h = absurd (broke-not-taken _ _ t v q l (covered-lt b (amounts t) (x tt)) (sym (settle-broke b t (x tt)) ∙ h))

    to : settle b t ≡ taken v q l → Ends t v q × (total t ≤ b) × (l ≡ b - total t)
    to = go (leb (total t) b) (leb→le _ _) (nleb→lt _ _)

    from : Ends t v q × (total t ≤ b) × (l ≡ b - total t) → settle b t ≡ taken v q l
    from r = settle-reached b t r.1 ∙ ends-finish t (b - total t) r.0 ∙ ap (taken v q) (sym r.2)

-- one part after another, under a budget
unfoldable pub then_s : {A B : Type 0} → Settled A → (A → ℕ → ℕ → Settled B) → Settled B
then_s (refused w p b) k = refused w p b
then_s (taken a p b) k = k a p b

pub settle-bind : {A B : Type 0} (b : ℕ) (t : Trace A) (k : A → ℕ → Trace B)
    → settle b (bind t k) ≡ then_s (settle b t) (λ v q l. settle l (k v q))
unfolding settle bind then_s pick
settle-bind b (stop w p) k = refl
settle-bind b (end a p) k = refl
settle-bind {A} {B} b (charge c n p t) k = go (leb n b) (settle-bind (b - n) t k)
  where
    go : (d : Bool) → settle (b - n) (bind t k) ≡ then_s (settle (b - n) t) (λ v q l. settle l (k v q))
        → pick d (settle (b - n) (bind t k)) (refused (spent c n b) p b) ≡ then_s (pick d (settle (b - n) t) (refused (spent c n b) p b)) (λ v q l. settle l (k v q))
    go true e = e
    go false e = refl
settle-bind b (needs n p t) k = settle-bind b t k

-- The charge at which a trace breaks off.
pub record Broken {A : Type 0} (t : Trace A) (i b : ℕ) : Type 0 where
  pub context : ℕ
  pub amount : ℕ
  pub place : ℕ
  pub there : Charge t i context amount place
  pub is : broke i b t ≡ refused (spent context amount b) place b

pub broke-at : {A : Type 0} (t : Trace A) (i b : ℕ) → i < length (amounts t) → Broken t i b
unfolding broke amounts
broke-at (stop w p) i b h = absurd (omega arith)
broke-at (end a p) i b h = absurd (omega arith)
broke-at (charge c n p t) zero b h = record { context = c; amount = n; place = p; there = here; is = refl }
broke-at (charge c n p t) (suc i) b h = let r = broke-at t i b (omega arith) in record { context = r.context; amount = r.amount; place = r.place; there = later r.there; is = r.is }
broke-at (needs m q t) i b h = let r = broke-at t i b h in record { context = r.context; amount = r.amount; place = r.place; there = past r.there; is = r.is }

-- What is paid first is paid in full; a trace that stops is refused there.
pub settle-stopped : {A : Type 0} (b : ℕ) (t : Trace A) {w : Wrong} {q : ℕ} → out t ≡ stopped w q → total t ≤ b
    → settle b t ≡ refused w q (b - total t)
unfolding out finish
settle-stopped b t h g = settle-reached b t g ∙ go t (b - total t) h
  where
    go : {A : Type 0} (t : Trace A) (l : ℕ) {w : Wrong} {q : ℕ} → out t ≡ stopped w q → finish l t ≡ refused w q l
    go (stop w p) l h = cc
    go (end a p) l h = cc
    go (charge c n p t) l h = go t l h
    go (needs n p t) l h = go t l h
