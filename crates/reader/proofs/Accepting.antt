-- The laws of what a second pass knows: what would refuse a part would refuse the whole.
use Rattle.std.specs.Prelude.{Ok, Err}
use Prim.Native.Nat.{ℕ, ◌≤◌}
use mathlib.Core.Path.{◌≡◌, refl, sym, ap, ◌∙◌}
use mathlib.Core.List.{List, []}
use mathlib.Core.Bool.{Bool, true, false}
use native.Mathlib.Omega.{arith}
use Rattle.format.specs.Trace.{Wrong, Settled, refused, taken, settle, Ends}
use Rattle.format.specs.Format.{Value, pair, first, second, Format, seq}
use Rattle.format.specs.Reading.{trace}
use Rattle.format.specs.SettleTheorems.{then_s, settle-taken}
use Rattle.format.proofs.TraceTheorems.{settle-seq}
use Rattle.reader.specs.Contract.{told, Refuses, Reads, takes, refuses, skips, Reader, On, Step}
use Rattle.reader.specs.declared.Cursor.{Cursor}
use Rattle.reader.specs.declared.Refusal.{Refusal}
use Rattle.reader.proofs.Laws.{at-refused, field_then}
use Rattle.reader.proofs.Known.{kind-of}
use Rattle.reader.specs.Accepted.{Goes, Accepted}

-- a first pass knows nothing
pub unknown : {f : Format} {s : List ℕ} {r : Step} → Accepted false f s r
unknown = record { is = λ e. let no : ◌≡◌ {A = ℕ} 0 1 = cc in absurd (omega arith) }

-- what was taken is not refused when it is read again
pub taken-accepted : {b : Bool} {f : Format} {s : List ℕ} {r : Step} {c : Cursor} {v : Value} {p l : ℕ} → r ≡ Ok c
    → settle c.left (trace f s c.place) ≡ taken v p l → Accepted b f s r
taken-accepted {c = c} o i = record { is = λ _. record { cursor = c; is = o; never = λ x k. let no : ◌≡◌ {A = ℕ} 0 1 = cc (i, k.settles) in absurd (omega arith) } }

module _ {b : Bool} {f : Format} {s : List ℕ} {r : Step} where
  pub denied : {x : Refusal} {t t' : List ℕ} → Accepted b f s r → b ≡ true → Reads f s r t (Err x) t' → ⊥
  denied {x} {t} {t'} g e h = let k = g.is e in go k (rw k.is at h)
    where
      go : (k : Goes f s r) → Reads f s (Ok k.cursor) t (Err x) t' → ⊥
      go k (refuses i) = k.never x i

  -- THE law
  pub accepted-part : {g : Format} {r' : Step} {t t' : List ℕ}
      → ((x : Refusal) → Reader g s r' t' (Err x) t' → Reader f s r t (Err x) t') → Accepted b f s r
      → Accepted b g s r'
  accepted-part {g} {r'} {t} {t'} k a = record { is = λ e. go e r' k }
    where
      go : b ≡ true → (r' : Step) → ((x : Refusal) → Reader g s r' t' (Err x) t' → Reader f s r t (Err x) t')
          → Goes g s r'
      go e (Ok c) k = record { cursor = c; is = refl; never = λ x h. denied a e (k x (record { reads = refuses h; ready = tt })).reads }
      go e (Err x) k = absurd (denied a e (k x (record { reads = skips; ready = tt })).reads)

-- A reading whose refusals all have one of document 01's numbers, so that each is one of the code's.
pub record Known (f : Format) (s : List ℕ) (c : Cursor) : Type 0 where
  pub number : (w : Wrong) (p l : ℕ) → settle c.left (trace f s c.place) ≡ refused w p l
      → (1 ≤ w.number) × (w.number ≤ 27)

abbrev refused_with : Wrong → ℕ → ℕ → ℕ → Settled Value
refused_with w p l n = refused (record { number = n; context = w.context; detail1 = w.detail1; detail2 = w.detail2 }) p l

goes-taken : {f : Format} {s : List ℕ} {c : Cursor} → Known f s c → ((x : Refusal) → Refuses f s c x → ⊥)
    → (v : Value) × (q : ℕ) × (l : ℕ) × (settle c.left (trace f s c.place) ≡ taken v q l)
goes-taken {f} {s} {c} h n = go (settle c.left (trace f s c.place)) refl
  where
    go : (z : Settled Value) → settle c.left (trace f s c.place) ≡ z
        → (v : Value) × (q : ℕ) × (l : ℕ) × (settle c.left (trace f s c.place) ≡ taken v q l)
    go (refused w p l) e =
        let i = h.number w p l e in
        let k = kind-of w.number i.0 i.1 in
        let x : Refusal = record { kind = k.0; context = w.context; detail1 = w.detail1; detail2 = w.detail2; place = p; left = l } in
        let same : told x ≡ refused w p l = ap (refused_with w p l) k.1 in
        absurd (n x (record { settles = e ∙ sym same }))
    go (taken v p l) e = (v, p, l, e)

-- what is accepted is taken
pub accepted-on : {f : Format} {s : List ℕ} {r : Step} → ((c : Cursor) → r ≡ Ok c → Known f s c) → Accepted true f s r
    → (v : Value) × (q : ℕ) × (l : ℕ) × On f s v q l r
accepted-on h g = let k = g.is refl in let t = goes-taken (h k.cursor k.is) k.never in (t.0, t.1, t.2, record { cursor = k.cursor; is = k.is; settles = t.3 })

-- what is accepted comes to an end
pub accepted-ends : {b : Bool} {f : Format} {s : List ℕ} {c : Cursor} → Known f s c → b ≡ true
    → Accepted b f s (Ok c) → (v : Value) × (q : ℕ) × Ends (trace f s c.place) v q
accepted-ends {b} {f} {s} {c} h i g =
    let k = g.is i in
    let e : k.cursor ≡ c = cc k.is in
    let t = goes-taken h (rw e at k.never) in
    (t.0, t.1, ((settle-taken c.left (trace f s c.place) t.0 t.1 t.2).0 t.3).0)

pub accepted-at : {b : Bool} {f : Format} {s : List ℕ} {r : Step} {c : Cursor} → r ≡ Ok c → Accepted b f s r
    → Accepted b f s (Ok c)
accepted-at e g = rw e at g

module _ {b : Bool} {f : Format} {g : Value → Format} {s : List ℕ} {r : Step} where
  pub accepted-first : Accepted b (seq f g) s r → Accepted b f s r
  accepted-first = accepted-part {t = []} (λ x h. field_then h (λ v. at-refused refl))

module _ {b : Bool} {f g : Format} {s : List ℕ} {r : Step} where
  pub accepted-next : {r' : Step} {t t' : List ℕ} → Reader f s r t r' t' → Accepted b (seq f (λ _. g)) s r
      → Accepted b g s r'
  accepted-next h = accepted-part (λ x k. field_then h (λ _. k))

-- ---- reading on in what a whole reading has taken

then-taken : {v₁ : Value} (t : Settled Value) {v : Value} {q l : ℕ}
    → then_s t (λ w r m. taken (pair v₁ w) r m) ≡ taken v q l → (v₁ ≡ first v) × (t ≡ taken (second v) q l)
unfolding then_s
then-taken (refused w p b) h = let no : ◌≡◌ {A = ℕ} 0 1 = cc in absurd (omega arith)
then-taken {v₁} (taken w p b) {v} {q} {l} h = let e : v ≡ pair v₁ w = cc in let i : p ≡ q = cc in let j : b ≡ l = cc in (rw e, rw (e, i, j))

module _ {f : Format} {g : Value → Format} {s : List ℕ} {v : Value} {q l : ℕ} {r : Step} (o : On (seq f g) s v q l r) where
  -- its first part is not refused
  pub on-accepted : {b : Bool} → Accepted b f s r
  on-accepted = accepted-first (taken-accepted o.is o.settles)

  -- a part read: the rest is still to come
  pub on-next : {r' : Step} {t t' : List ℕ} → Reader f s r t r' t' → On (g (first v)) s (second v) q l r'
  unfolding then_s
  on-next {r'} {t} {t'} k = go (rw o.is at k.reads)
    where
      e : then_s (settle o.cursor.left (trace f s o.cursor.place)) (λ v q l. then_s (settle l (trace (g v) s q)) (λ w r m. taken (pair v w) r m)) ≡ taken v q l
      e = sym (settle-seq o.cursor.left f g s o.cursor.place) ∙ o.settles

      go : {r' : Step} → Reads f s (Ok o.cursor) t r' t' → On (g (first v)) s (second v) q l r'
      go (takes {v = v₁} {c' = d} h) =
          let x = then-taken (settle d.left (trace (g v₁) s d.place)) (rw h.settles at e) in
          record { cursor = d; is = refl; settles = rw (← x.0) x.1 }
      go (refuses h) = let y = rw h.settles at e in let no : ◌≡◌ {A = ℕ} 0 1 = cc in absurd (omega arith)
