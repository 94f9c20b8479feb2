-- The laws of questions: one after another, and after the part whose value they ask about.
use Rattle.std.specs.Prelude.{Ok, Err}
use Prim.Native.Nat.{ℕ, ◌-◌, ◌≤◌}
use mathlib.Core.Path.{◌≡◌, refl, sym, ◌∙◌}
use mathlib.Core.List.{List, [], ◌∷◌, ◌++◌}
use mathlib.Core.Bool.{Bool, true, false}
use native.Mathlib.Omega.{arith}
use borrow.Author.Tests.{eq-eqb, ne_eqb}
use lib.Dec.{leb, eqb}
use Rattle.format.specs.Trace.{Wrong, settle, refused, taken, spent, pick, Ends}
use Rattle.format.specs.Format.{Value, none, Ask, pay, deny, Format, leaf, ask, seq}
use Rattle.format.specs.Reading.{trace, trace_ask, trace_leaf}
use Rattle.format.specs.Record.{words, words_leaf}
use Rattle.format.specs.SettleTheorems.{then_s}
use Rattle.vob24.specs.Questions.{refuse_unless}
use Rattle.reader.specs.Contract.{told, Ready, ReadyAt, Reads, takes, refuses, skips, Reader, Paid, Asks, passes, denies, Behind, Follows, Step}
use Rattle.reader.specs.declared.Cursor.{Cursor}
use Rattle.reader.specs.declared.Refusal.{Refusal}
use Rattle.reader.proofs.Laws.{takes-ends, then_reads, seq-refuses}
use Rattle.reader.proofs.Settles.{pay-yes, pay-no}
use Rattle.reader.proofs.Paying.{paid-spent, paid-bought}

-- two runs of questions
asks_both : (l m : List Ask) (p b : ℕ)
    → settle b (trace_ask (l ++ m) p) ≡ then_s (settle b (trace_ask l p)) (λ v q k. settle k (trace_ask m p))
unfolding trace_ask settle then_s pick
asks_both [] m p b = refl
asks_both (pay c n ∷ l) m p b = go (leb n b) (asks_both l m p (b - n))
  where
    go : (d : Bool)
        → settle (b - n) (trace_ask (l ++ m) p) ≡ then_s (settle (b - n) (trace_ask l p)) (λ v q k. settle k (trace_ask m p))
        → pick d (settle (b - n) (trace_ask (l ++ m) p)) (refused (spent c n b) p b) ≡ then_s (pick d (settle (b - n) (trace_ask l p)) (refused (spent c n b) p b)) (λ v q k. settle k (trace_ask m p))
    go true e = e
    go false e = refl
asks_both (deny w ∷ l) m p b = refl

-- questions take no byte
asks-place : (l : List Ask) (p b : ℕ) {v : Value} {q k : ℕ} → settle b (trace_ask l p) ≡ taken v q k → q ≡ p
unfolding trace_ask settle pick
asks-place [] p b e = cc
asks-place (pay c n ∷ l) p b {v} {q} {k} e = go (leb n b) (asks-place l p (b - n)) e
  where
    go : (d : Bool) → (settle (b - n) (trace_ask l p) ≡ taken v q k → q ≡ p)
        → pick d (settle (b - n) (trace_ask l p)) (refused (spent c n b) p b) ≡ taken v q k → q ≡ p
    go true i e = i e
    go false i e = let z : ◌≡◌ {A = ℕ} 0 1 = cc in absurd (omega arith)
asks-place (deny w ∷ l) p b e = let z : ◌≡◌ {A = ℕ} 0 1 = cc in absurd (omega arith)

module _ {l : List Ask} (m : List Ask) {c : Cursor} where
  -- what has passed leads on
  pub asks-then : {d : Cursor} {q : Step} → Asks l c (Ok d) → Asks m d q → Asks (l ++ m) c q
  unfolding then_s
  asks-then {d} {q} (passes e i) k =
      let y : d.place ≡ c.place = asks-place l c.place c.left e in
      go k y (asks_both l m c.place c.left ∙ rw e)
    where
      go : {q : Step} → Asks m d q → d.place ≡ c.place
          → settle c.left (trace_ask (l ++ m) c.place) ≡ settle d.left (trace_ask m c.place)
          → Asks (l ++ m) c q
      go (passes a b) y w = passes (w ∙ (rw y at a)) (b ∙ i)
      go (denies a) y w = denies (w ∙ (rw y at a))

  pub asks-not : {x : Refusal} → Asks l c (Err x) → Asks (l ++ m) c (Err x)
  unfolding then_s
  asks-not {x} (denies e) = denies {x = x} (asks_both l m c.place c.left ∙ rw e)

pub asks_none : {c : Cursor} → Asks [] c (Ok c)
unfolding trace_ask settle
asks_none = passes refl refl

pub asks-deny : {w : Wrong} {l : List Ask} {c : Cursor} {x : Refusal} → told x ≡ refused w c.place c.left
    → Asks (deny w ∷ l) c (Err x)
unfolding trace_ask settle
asks-deny e = denies (sym e)

-- a charge, and the rest
module _ {k n : ℕ} {l : List Ask} {c : Cursor} {p : Step} (h : Paid k n c p) where
  pub asks-poor : {x : Refusal} → p ≡ Err x → Asks (pay k n ∷ l) c p
  unfolding trace_ask
  asks-poor e = let w = paid-spent e h in rw (e, w.is) (denies (pay-no c.left k n c.place _ w.poor))

  pub asks-paid : {d : Cursor} {q : Step} → p ≡ Ok d → Asks l d q → Asks (pay k n ∷ l) c q
  unfolding trace_ask
  asks-paid {d} e a = let w = paid-bought e h in go w.rich (rw w.is at a)
    where
      go : {q : Step} → n ≤ c.left → Asks l (record { place = c.place; left = c.left - n; at = c.at }) q
          → Asks (pay k n ∷ l) c q
      go r (passes e i) = passes (pay-yes c.left k n c.place _ r ∙ e) i
      go r (denies e) = denies (pay-yes c.left k n c.place _ r ∙ e)

-- the questions as a part of a format
pub asks-reads : {l : List Ask} {s : List ℕ} {c : Cursor} {t : List ℕ} {q : Step} → Asks l c q
    → Reads (leaf (ask l)) s (Ok c) t q t
unfolding trace trace_leaf words words_leaf
asks-reads {l} {s} {c} (passes {d} e i) = takes {v = none} {c = c} {c' = d} (record { settles = e; moves = i ∙ omega arith; writes = refl })
asks-reads {l} {s} {c} (denies {x} e) = refuses {c = c} {x = x} (record { settles = e })

-- ---- a part, and the questions on its value

pub behind : {f : Format} {s : List ℕ} {t t₁ : List ℕ} {r r₁ : Step} → Ready s r → Reader f s r t r₁ t₁
    → Behind f s r r₁
behind {f} {s} {t} {t₁} {r} {r₁} h k = record { before = h; ready = k.ready; comes = λ c d e i. go (rw (e, i) at k.reads) }
  where
    go : {c d : Cursor} → Reads f s (Ok c) t (Ok d) t₁ → (v : Value) × Ends (trace f s c.place) v d.place
    go (takes {v = v} a) = (v, takes-ends a)

asks-ready : {l : List Ask} {s : List ℕ} {c : Cursor} {q : Step} → ReadyAt s c → Asks l c q → Ready s q
asks-ready {l} {s} {c} r (passes {d} e i) = let y : d.place ≡ c.place = asks-place l c.place c.left e in record { small = r.small; within = omega (arith, r.within); behind = omega (arith, r.behind) }
asks-ready r (denies e) = tt

pub follow_then : {f : Format} {l : Value → List Ask} {s : List ℕ} {t t₁ : List ℕ} {r r₁ q : Step} → Reader f s r t r₁ t₁
    → Follows f l s r r₁ q → Reader (seq f (λ v. leaf (ask (l v)))) s r t q t₁
follow_then {f} {l} {s} {t} {t₁} {r} {r₁} {q} h k = go r r₁ h.reads h.ready k.stays k.asks
  where
    go : (r r₁ : Step) → Reads f s r t r₁ t₁ → Ready s r₁ → ((x : Refusal) → r₁ ≡ Err x → q ≡ r₁)
        → ((c d : Cursor) (v : Value) → r ≡ Ok c → r₁ ≡ Ok d → Ends (trace f s c.place) v d.place → Asks (l v) d q)
        → Reader (seq f (λ v. leaf (ask (l v)))) s r t q t₁
    go (Ok c) (Ok d) (takes {v = v} a) y i j = let b = j c d v refl refl (takes-ends a) in record { reads = then_reads a (asks-reads b); ready = asks-ready y b }
    go (Ok c) (Err x) (refuses a) y i j = rw (i x refl) (record { reads = refuses (seq-refuses a); ready = tt })
    go (Err x) (Err z) skips y i j = rw (i z refl) (record { reads = skips; ready = tt })
    go (Err x) (Ok d) x6 y i j = elim x6 [ ]

-- ---- two counts that must agree

module _ (a b : ℕ) (w : Wrong) {s : List ℕ} {d : Cursor} {t : List ℕ} (h : ReadyAt s d) where
  asked : {q : Step} → Asks (refuse_unless (eqb a b) w) d q
      → Reader (leaf (ask (refuse_unless (eqb a b) w))) s (Ok d) t q t
  asked k = record { reads = asks-reads k; ready = asks-ready h k }

  pub agree : a ≡ b → Reader (leaf (ask (refuse_unless (eqb a b) w))) s (Ok d) t (Ok d) t
  unfolding pick
  agree e = asked (rw (eq-eqb a b e) asks_none)

  pub differ : {x : Refusal} → (a ≡ b → ⊥) → told x ≡ refused w d.place d.left
      → Reader (leaf (ask (refuse_unless (eqb a b) w))) s (Ok d) t (Err x) t
  unfolding pick
  differ i e = asked (rw (ne_eqb a b i) (asks-deny e))
