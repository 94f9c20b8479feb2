-- A part of a format replaced by another, under a budget: what stays of the reading, and where it now stops.
use Rattle.std.specs.Prelude.{ℕ, ◌+◌, ◌-◌, ◌*◌, ◌≤◌, ◌<◌, ◌≡◌, refl, List, Bool, true, false, length, T, leb}
use Rattle.std.proofs.Common.{ap, ap₂, sym, ◌∙◌, arith, leb→le, le→leb}
use Rattle.format.specs.Trace.{Wrong, wrong, unexpected_eof, Trace, end, charge, needs, guard, pick, Settled, refused, taken, spent, settle}
use Rattle.format.specs.Format.{Value, num, pair, first, second, Rule, count, Format, leaf, seq, ◌▸◌}
use Rattle.format.specs.Reading.{little, part, room, field, trace_leaf, trace}
use Rattle.format.specs.SettleTheorems.{then_s}
use Rattle.format.proofs.TraceTheorems.{guard-true, settle-seq}

-- The value of a first part joined with that of the second; the second part, from where the first one ended.
abbrev pub joined : Value → Value → ℕ → ℕ → Settled Value
joined v w q l = taken (pair v w) q l

abbrev pub onward : List ℕ → (Value → Format) → Value → ℕ → ℕ → Settled Value
onward s g v q l = then_s (settle l (trace (g v) s q)) (joined v)

abbrev pub turned : (Value → Value) → Settled Value → Settled Value
turned h (refused w p l) = refused w p l
turned h (taken v p l) = taken (h v) p l

-- Where k, if it is taken, ends at a place with P, f' settles as f does, but for the value, which h turns.
pub record Alike (s : List ℕ) (P : ℕ → Type 0) (f f' k : Format) (h : Value → Value) : Type 0 where
  pub same : (b p : ℕ) → ((v : Value) (q l : ℕ) → settle b (trace k s p) ≡ taken v q l → P q)
      → settle b (trace f' s p) ≡ turned h (settle b (trace f s p))

pub alike-seq : (s : List ℕ) (P : ℕ → Type 0) (f : Format) (g g' k : Value → Format) (h : Value → Value)
    → ((v : Value) → Alike s P (g v) (g' v) (k v) h)
    → Alike s P (seq f g) (seq f g') (seq f k) (λ v. pair (first v) (h (second v)))
unfolding then_s
alike-seq s P f g g' k h a = record { same = λ b p c. settle-seq b f g' s p ∙ outer b p c (settle b (trace f s p)) refl ∙ ap (turned (λ v. pair (first v) (h (second v)))) (sym (settle-seq b f g s p)) }
  where
    inner : (v : Value) (r : Settled Value)
        → then_s (turned h r) (joined v) ≡ turned (λ v. pair (first v) (h (second v))) (then_s r (joined v))
    inner v (refused w x m) = refl
    inner v (taken w x m) = refl

    outer : (b p : ℕ) → ((v : Value) (q l : ℕ) → settle b (trace (seq f k) s p) ≡ taken v q l → P q) → (r : Settled Value)
        → settle b (trace f s p) ≡ r
        → then_s r (onward s g') ≡ turned (λ v. pair (first v) (h (second v))) (then_s r (onward s g))
    outer b p c (refused w q l) e = refl
    outer b p c (taken v q l) e =
        let on : (w : Value) (x m : ℕ) → settle l (trace (k v) s q) ≡ taken w x m → P x = λ w x m i. c (pair v w) x m (settle-seq b f k s p ∙ ap (λ r. then_s r (onward s k)) e ∙ ap (λ r. then_s r (joined v)) i) in
        ap (λ r. then_s r (joined v)) ((a v).same l q on) ∙ inner v (settle l (trace (g v) s q))

-- the first part read alike
pub fore-alike : (s : List ℕ) (f f' g : Format) (h : Value → Value) (b p : ℕ)
    → settle b (trace f' s p) ≡ turned h (settle b (trace f s p))
    → settle b (trace (f' ▸ g) s p) ≡ turned (λ v. pair (h (first v)) (second v)) (settle b (trace (f ▸ g) s p))
unfolding then_s
fore-alike s f f' g h b p e =
    settle-seq b f' (λ _. g) s p
    ∙ ap (λ r. then_s r (onward s (λ _. g))) e
    ∙ outer (settle b (trace f s p))
    ∙ ap (turned (λ v. pair (h (first v)) (second v))) (sym (settle-seq b f (λ _. g) s p))
  where
    inner : (v : Value) (r : Settled Value)
        → then_s r (joined (h v)) ≡ turned (λ v. pair (h (first v)) (second v)) (then_s r (joined v))
    inner v (refused w x m) = refl
    inner v (taken w x m) = refl

    outer : (r : Settled Value)
        → then_s (turned h r) (onward s (λ _. g)) ≡ turned (λ v. pair (h (first v)) (second v)) (then_s r (onward s (λ _. g)))
    outer (refused w q l) = refl
    outer (taken v q l) = inner v (settle l (trace g s q))

-- ---- readings that come so far, and no further

-- Where k is taken up to q, with l left, f is refused.
pub record Stops (s : List ℕ) (q l : ℕ) (f k : Format) (w : Wrong) (x m : ℕ) : Type 0 where
  pub stops : (b p : ℕ) {v : Value} → settle b (trace k s p) ≡ taken v q l → settle b (trace f s p) ≡ refused w x m

pub stops-seq : (s : List ℕ) (q l : ℕ) (f : Format) (g k : Value → Format) (w : Wrong) (x m : ℕ)
    → ((v : Value) → Stops s q l (g v) (k v) w x m) → Stops s q l (seq f g) (seq f k) w x m
unfolding then_s
stops-seq s q l f g k w x m a = record { stops = λ b p {v} e. settle-seq b f g s p ∙ outer v (settle b (trace f s p)) (sym (settle-seq b f k s p) ∙ e) }
  where
    inner : (u v : Value) (o c : ℕ) (r : Settled Value) → settle c (trace (k u) s o) ≡ r
        → then_s r (joined u) ≡ taken v q l
        → then_s (settle c (trace (g u) s o)) (joined u) ≡ refused w x m
    inner u v o c (refused w' x' m') i e = let no : ◌≡◌ {A = ℕ} 0 1 = cc in absurd (omega arith)
    inner u v o c (taken v' q' l') i e =
        let y : q' ≡ q = cc in
        let z : l' ≡ l = cc in
        ap (λ r. then_s r (joined u)) ((a u).stops c o (i ∙ ap₂ (taken v') y z))

    outer : (v : Value) (r : Settled Value)
        → then_s r (onward s k) ≡ taken v q l
        → then_s r (onward s g) ≡ refused w x m
    outer v (refused w' x' m') e = let no : ◌≡◌ {A = ℕ} 0 1 = cc in absurd (omega arith)
    outer v (taken u o c) e = inner u v o c (settle c (trace (k u) s o)) refl e

pub fore-stops : (s : List ℕ) (f g : Format) (w : Wrong) (x m b p : ℕ) → settle b (trace f s p) ≡ refused w x m
    → settle b (trace (f ▸ g) s p) ≡ refused w x m
unfolding then_s
fore-stops s f g w x m b p e = settle-seq b f (λ _. g) s p ∙ ap (λ r. then_s r (onward s (λ _. g))) e

-- ---- a count under a budget

pub pick_yes : {A : Type 0} (d : Bool) (x y : A) → T d → pick d x y ≡ x
unfolding pick
pick_yes true x y t = refl
pick_yes {A = A} false x y t = elim t [ ]

pub pick_no : {A : Type 0} (d : Bool) (x y : A) → (T d → ◌≡◌ {A = ℕ} 0 1) → pick d x y ≡ y
unfolding pick
pick_no true x y h = let no = h tt in absurd (omega arith)
pick_no false x y h = refl

pub count_cut : (r : Rule) (m c z : ℕ) (s : List ℕ) (p b : ℕ) → length s < p + 4
    → settle b (trace (leaf (count r m c z)) s p) ≡ refused (wrong unexpected_eof 0) p b
unfolding trace trace_leaf field room guard settle
count_cut r m c z s p b h = go (leb (p + 4) (length s)) _ (leb→le (p + 4) (length s))
  where
    go : (d : Bool) (t : Trace Value) → (T d → p + 4 ≤ length s)
        → settle b (guard d (wrong unexpected_eof 0) p (needs (p + 4) p t)) ≡ refused (wrong unexpected_eof 0) p b
    go true t i = let j = i tt in absurd (omega arith)
    go false t i = refl

-- The rule, then the bytes left, then the charge.
pub count-settled : (r : Rule) (m c z : ℕ) (s : List ℕ) (p b : ℕ) → p + 4 ≤ length s
    → (let n = little (part s p 4) in settle b (trace (leaf (count r m c z)) s p) ≡ pick (r.test n) (pick (leb (p + 4 + n * m) (length s)) (pick (leb (n * z) b) (taken (num n) (p + 4) (b - n * z)) (refused (spent c (n * z) b) (p + 4) b)) (refused (wrong unexpected_eof 0) (p + 4) b)) (refused (r.why n) (p + 4) b))
unfolding trace trace_leaf field room guard settle pick
count-settled r m c z s p b h = ap (settle b) (guard-true (leb (p + 4) (length s)) _ p _ (le→leb (p + 4) (length s) h)) ∙ go (r.test n) (leb (p + 4 + n * m) (length s))
  where
    n : ℕ
    n = little (part s p 4)

    go : (d e : Bool)
        → settle b (needs (p + 4) p (guard d (r.why n) (p + 4) (guard e (wrong unexpected_eof 0) (p + 4) (needs (p + 4 + n * m) (p + 4) (charge c (n * z) (p + 4) (end (num n) (p + 4))))))) ≡ pick d (pick e (pick (leb (n * z) b) (taken (num n) (p + 4) (b - n * z)) (refused (spent c (n * z) b) (p + 4) b)) (refused (wrong unexpected_eof 0) (p + 4) b)) (refused (r.why n) (p + 4) b)
    go true true = refl
    go true false = refl
    go false e = refl
