-- The laws of readings: how a reading of a sequence goes on from that of its first part.
use Rattle.std.specs.Prelude.{Ok, Err}
use Rattle.std.specs.Result.{IsErrAnd}
use Prim.Native.Nat.{ℕ, suc, zero, ◌+◌, ◌-◌, ◌≤◌, ◌<◌}
use mathlib.Core.Path.{◌≡◌, refl, ap, sym, ◌∙◌}
use mathlib.Core.List.{List, [], ◌∷◌, ◌++◌}
use native.Mathlib.Omega.{arith}
use native.Mathlib.Nat.{add-zero, add-suc, suc-add}
use lib.ListN.{length, length-append, set}
use lib.Seq.{sets}
use Rattle.format.specs.Trace.{settle, Ends}
use Rattle.format.specs.Format.{Value, none, pair, Format, empty, seq, chain, times}
use Rattle.format.specs.Reading.{trace}
use Rattle.format.specs.Record.{words}
use Rattle.format.specs.SettleTheorems.{then_s, settle-taken}
use Rattle.format.proofs.TraceTheorems.{settle-seq, trace-within, slim}
use Rattle.reader.specs.Contract.{Ready, ReadyAt, Takes, Refuses, Reads, takes, refuses, skips, Reader, ComesTo, ReadsOf, got, lost, NumberOf, Step, Read}
use Rattle.reader.specs.declared.Cursor.{Cursor}
use Rattle.reader.specs.declared.Refusal.{Refusal}
use Rattle.reader.proofs.Errors.{handed}

pub sets-append : (t : List ℕ) (i : ℕ) (xs ys : List ℕ) → sets t i (xs ++ ys) ≡ sets (sets t i xs) (i + length xs) ys
sets-append t i [] ys = rw add-zero
sets-append t i (x ∷ xs) ys = sets-append (set t i x) (suc i) xs ys ∙ rw (add-suc, suc-add)

-- what was taken is the end of the trace, whatever the budget
pub takes-ends : {f : Format} {s : List ℕ} {c c' : Cursor} {t t' : List ℕ} {v : Value} → Takes f s c t v c' t'
    → Ends (trace f s c.place) v c'.place
takes-ends {f} {s} {c} {c'} {t} {t'} {v} h = ((settle-taken c.left (trace f s c.place) v c'.place c'.left).0 h.settles).0

-- what is ready stays so: a word has a byte of its own
pub takes-ready : {f : Format} {s : List ℕ} {c c' : Cursor} {t t' : List ℕ} {v : Value} → ReadyAt s c
    → Takes f s c t v c' t' → ReadyAt s c'
takes-ready {f} {s} {c} {c'} {t} {t'} {v} r h =
    let e = takes-ends h in
    record { small = r.small; within = (trace-within f s c.place e).1 r.within; behind = omega (arith, h.moves, (slim f).most s c.place e, r.behind) }

module _ {s : List ℕ} {f : Format} {g : Value → Format} {c : Cursor} where
  pub seq-refuses : {x : Refusal} → Refuses f s c x → Refuses (seq f g) s c x
  unfolding then_s
  seq-refuses h = record { settles = settle-seq c.left f g s c.place ∙ rw h.settles }

  pub then-refuses : {t t₁ : List ℕ} {v : Value} {c₁ : Cursor} {x : Refusal} → Takes f s c t v c₁ t₁
      → Refuses (g v) s c₁ x → Refuses (seq f g) s c x
  unfolding then_s
  then-refuses h k = record { settles = settle-seq c.left f g s c.place ∙ rw (h.settles, k.settles) }

  pub then-takes : {t t₁ t₂ : List ℕ} {v w : Value} {c₁ c₂ : Cursor} → Takes f s c t v c₁ t₁
      → Takes (g v) s c₁ t₁ w c₂ t₂ → Takes (seq f g) s c t (pair v w) c₂ t₂
  unfolding words then_s
  then-takes {t} {t₁} {t₂} {v} {w} {c₁} {c₂} h k =
      record {
        settles = settle-seq c.left f g s c.place ∙ rw (h.settles, k.settles);
        moves = omega (arith, h.moves, k.moves, length-append (words f v) (words (g v) w));
        writes = k.writes ∙ rw (h.writes, h.moves, sets-append);
      }

  pub then_reads : {t t₁ t₂ : List ℕ} {v : Value} {c₁ : Cursor} {r : Step} → Takes f s c t v c₁ t₁
      → Reads (g v) s (Ok c₁) t₁ r t₂ → Reads (seq f g) s (Ok c) t r t₂
  then_reads h (takes k) = takes (then-takes h k)
  then_reads h (refuses k) = refuses (then-refuses h k)

module _ {s : List ℕ} {f : Format} {g : Value → Format} where
  -- a part, and the rest whatever the part's value
  pub field_reads : {t t₁ t₂ : List ℕ} {r r₁ r₂ : Step} → Reads f s r t r₁ t₁ → ((v : Value) → Reads (g v) s r₁ t₁ r₂ t₂)
      → Reads (seq f g) s r t r₂ t₂
  field_reads (takes h) k = then_reads h (k _)
  field_reads (refuses h) k = go h (k none)
    where
      go : {c : Cursor} {x : Refusal} {t t₁ t₂ : List ℕ} {r₂ : Step} {e : Format} → Refuses f s c x
          → Reads e s (Err x) t₁ r₂ t₂ → Reads (seq f g) s (Ok c) t r₂ t₂
      go h skips = refuses (seq-refuses h)
  field_reads skips k = go (k none)
    where
      go : {x : Refusal} {t t₁ t₂ : List ℕ} {r₂ : Step} {e : Format} → Reads e s (Err x) t₁ r₂ t₂
          → Reads (seq f g) s (Err x) t r₂ t₂
      go skips = skips

-- nothing: the answer so far
empty-takes : (s : List ℕ) (c : Cursor) (t : List ℕ) → Takes empty s c t none c t
unfolding trace settle words
empty-takes s c t = record { settles = refl; moves = omega arith; writes = refl }

empty_reads : (s : List ℕ) (r : Step) (t : List ℕ) → Reads empty s r t r t
empty_reads s (Ok c) t = takes (empty-takes s c t)
empty_reads s (Err x) t = skips

pub empty_then : {s : List ℕ} {r : Step} {t : List ℕ} → Ready s r → Reader empty s r t r t
empty_then {s} {r} {t} h = record { reads = empty_reads s r t; ready = h }

-- ---- parts

module _ {s : List ℕ} {f : Format} {g : Value → Format} {t t₁ t₂ : List ℕ} where
  pub field_then : {r r₁ r₂ : Step} → Reader f s r t r₁ t₁ → ((v : Value) → Reader (g v) s r₁ t₁ r₂ t₂)
      → Reader (seq f g) s r t r₂ t₂
  field_then h k = record { reads = field_reads h.reads (λ v. (k v).reads); ready = (k none).ready }

-- the answer so far is at hand
module _ {f : Format} {s : List ℕ} {t t₁ : List ℕ} {r : Step} where
  pub at-step : {q : Step} {c : Cursor} → r ≡ Ok c → Reader f s (Ok c) t q t₁ → Reader f s r t q t₁
  at-step e h = rw e h

  pub at-refused : {x : Refusal} → r ≡ Err x → Reader f s r t r t₁
  at-refused e = rw e (record { reads = skips; ready = tt })

-- the refusal is handed on
pub up-refused : {f : Format} {s : List ℕ} {t : List ℕ} {r p : Step} {x : Refusal} → r ≡ Err x → IsErrAnd p (λ y. y ≡ x) → Reader f s r t p t
up-refused {p = p} e i = rw (handed p i, e) (record { reads = skips; ready = tt })

pub ready_at : {s : List ℕ} {c : Cursor} {r : Step} → r ≡ Ok c → Ready s r → ReadyAt s c
ready_at {s} e h = rw e at h

-- a number that was got
pub record GotOf (f : Format) (of : Value → ℕ) (s : List ℕ) (c : Cursor) (t : List ℕ) (n : ℕ) (c' : Cursor) (t₁ : List ℕ) : Type 0 where
  pub value : Value
  pub is : n ≡ of value
  pub takes : Takes f s c t value c' t₁
  pub ready : ReadyAt s c'

-- a number that is not kept
module _ {f : Format} {of : Value → ℕ} {s : List ℕ} {c : Cursor} {t t₁ : List ℕ} where
  pub got_of : {q : Read ℕ} {n : ℕ} {c' : Cursor} → q ≡ Ok (n, c') → NumberOf f of s c t q t₁ → GotOf f of s c t n c' t₁
  got_of {q} {n} {c'} e h = go (rw e at h.reads) (rw e at h.ready)
    where
      go : ReadsOf f of s c t (Ok (n, c')) t₁ → ReadyAt s c' → GotOf f of s c t n c' t₁
      go (got e k) r = record { value = _; is = e; takes = k; ready = r }

  pub got-ready : {q : Read ℕ} {n : ℕ} {c' : Cursor} → q ≡ Ok (n, c') → NumberOf f of s c t q t₁ → ReadyAt s c'
  got-ready e h = (got_of e h).ready

  -- the number is not kept
  pub number_just : {q : Read ℕ} {n : ℕ} {c' : Cursor} → q ≡ Ok (n, c') → NumberOf f of s c t q t₁ → Reader f s (Ok c) t (Ok c') t₁
  number_just e h = let g = got_of e h in record { reads = takes g.takes; ready = g.ready }

  -- a number, and the rest by that number
  pub number_then : (h : ℕ → Format) {q : Read ℕ} {n : ℕ} {c' : Cursor} {t₂ : List ℕ} {r₂ : Step} → q ≡ Ok (n, c')
      → NumberOf f of s c t q t₁ → Reader (h n) s (Ok c') t₁ r₂ t₂
      → Reader (seq f (λ v. h (of v))) s (Ok c) t r₂ t₂
  number_then h {q} {n} {c'} {t₂} {r₂} e k m =
      let g = got_of e k in
      record { reads = then_reads g.takes (rw g.is at m.reads); ready = m.ready }

  -- not got: the whole is refused
  pub number_not : (g : Value → Format) {q : Read ℕ} {x : Refusal} {r : Step} {t₂ : List ℕ} → q ≡ Err x → IsErrAnd r (λ y. y ≡ x)
      → NumberOf f of s c t q t₁ → Reader (seq f g) s (Ok c) t r t₂
  number_not g {q} {x} {r} {t₂} e i k = rw (handed r i) (go (rw e at k.reads))
    where
      go : ReadsOf f of s c t (Err x) t₁ → Reader (seq f g) s (Ok c) t (Err x) t₂
      go (lost h) = record { reads = refuses (seq-refuses h); ready = tt }

  -- alone
  pub number_lost : {q : Read ℕ} {x : Refusal} {r : Step} {t₂ : List ℕ} → q ≡ Err x → IsErrAnd r (λ y. y ≡ x)
      → NumberOf f of s c t q t₁ → Reader f s (Ok c) t r t₂
  number_lost {q} {x} {r} {t₂} e i k = rw (handed r i) (go (rw e at k.reads))
    where
      go : ReadsOf f of s c t (Err x) t₁ → Reader f s (Ok c) t (Err x) t₂
      go (lost h) = record { reads = refuses h; ready = tt }

-- ---- some parts of a sequence

refused-alike : {f g : Format} {s t : List ℕ} {x : Refusal} {q : Step} {t'' : List ℕ} → Reads g s (Err x) t q t''
    → Reads f s (Err x) t q t''
refused-alike skips = skips

module _ {f g : Format} {s t : List ℕ} {r : Step} where
  pub comes-not : {x : Refusal} → r ≡ Err x → ComesTo f g s r t r t
  comes-not e = rw e (record { rest = refused-alike; ready = tt })

  pub comes-up : {q : Step} {x : Refusal} → r ≡ Err x → IsErrAnd q (λ y. y ≡ x) → ComesTo f g s r t q t
  comes-up {q} e i = rw (handed q i, e) (record { rest = refused-alike; ready = tt })

  pub comes-at : {c : Cursor} {q : Step} {t' : List ℕ} → r ≡ Ok c → ComesTo f g s (Ok c) t q t'
      → ComesTo f g s r t q t'
  comes-at e k = rw e k

  module _ {r' : Step} {t' : List ℕ} (c : ComesTo f g s r t r' t') where
    pub comes_then : {q : Step} {t'' : List ℕ} → Reader g s r' t' q t'' → Reader f s r t q t''
    comes_then k = record { reads = c.rest k.reads; ready = k.ready }

    pub comes-on : {e : Format} {q : Step} {t'' : List ℕ} → ComesTo g e s r' t' q t'' → ComesTo f e s r t q t''
    comes-on k = record { rest = λ h. c.rest (k.rest h); ready = k.ready }

pub comes-last : {f g : Format} {s t t' : List ℕ} {r r' : Step} → Reader f s r t r' t'
    → ComesTo (seq f (λ _. g)) g s r t r' t'
comes-last h = record { rest = λ k. field_reads h.reads (λ _. k); ready = h.ready }

pub comes-next : {f g e : Format} {s t t₁ t' : List ℕ} {r r₁ r' : Step} → Reader f s r t r₁ t₁
    → ComesTo e g s r₁ t₁ r' t' → ComesTo (seq f (λ _. e)) g s r t r' t'
comes-next h c = comes-on (comes-last h) c

-- ---- lists: what a loop has read, and what it comes to

module _ {S : Type 0} (f : S → Format) (u : S → Value → S) where
  chain_more : (x : S) (n : ℕ) → 0 < n → chain f u x n ≡ seq (f x) (λ v. chain f u (u x v) (n - 1))
  unfolding chain
  chain_more x zero h = absurd (omega arith)
  chain_more x (suc n) h = let e : suc n - 1 ≡ n = omega arith in rw e

  chain-none : (x : S) (n : ℕ) → n ≤ 0 → chain f u x n ≡ empty
  unfolding chain
  chain-none x zero h = refl
  chain-none x (suc n) h = absurd (omega arith)

-- THE invariant of a loop over n items from the state x₀, with k items to read from the state x
pub record Chained {S : Type 0} (f : S → Format) (u : S → Value → S) (s : List ℕ) (t₀ : List ℕ) (r₀ : Step) (x₀ : S) (n : ℕ) (t : List ℕ) (r : Step) (x : S) (k : ℕ) : Type 0 where
  pub comes : ComesTo (chain f u x₀ n) (chain f u x k) s r₀ t₀ r t
  pub long : length t ≡ length t₀

module _ {S : Type 0} {f : S → Format} {u : S → Value → S} {s : List ℕ} {t₀ : List ℕ} {r₀ : Step} {x₀ : S} {n : ℕ} where
  pub chained-start : Ready s r₀ → Chained f u s t₀ r₀ x₀ n t₀ r₀ x₀ n
  chained-start h = record { comes = record { rest = λ k. k; ready = h }; long = refl }

  module _ {t : List ℕ} {x : S} {k : ℕ} (h : 0 < k) where
    one_more : {r : Step} → Chained f u s t₀ r₀ x₀ n t r x k
        → ComesTo (chain f u x₀ n) (seq (f x) (λ v. chain f u (u x v) (k - 1))) s r₀ t₀ r t
    one_more l = rw (chain_more f u x k h) at l.comes

    -- an item whose value the state does not take in
    pub chained-plain : {t₁ : List ℕ} {r r₁ : Step} → ((v : Value) → u x v ≡ x) → Chained f u s t₀ r₀ x₀ n t r x k
        → Reader (f x) s r t r₁ t₁ → length t₁ ≡ length t → Chained f u s t₀ r₀ x₀ n t₁ r₁ x (k - 1)
    chained-plain {t₁} {r} {r₁} i l m e =
        let l' = one_more l in
        record { comes = record { rest = λ p. l'.rest (field_reads m.reads (λ v. rw (i v) p)); ready = m.ready }; long = e ∙ l.long }

    -- an item of which the state takes in a number
    pub chained_more : {t₁ : List ℕ} (of : Value → ℕ) (w : S → ℕ → S) {c c' : Cursor} {q : Read ℕ} {m : ℕ}
        → ((v : Value) → u x v ≡ w x (of v)) → q ≡ Ok (m, c') → Chained f u s t₀ r₀ x₀ n t (Ok c) x k
        → NumberOf (f x) of s c t q t₁ → length t₁ ≡ length t
        → Chained f u s t₀ r₀ x₀ n t₁ (Ok c') (w x m) (k - 1)
    chained_more {t₁} of w {c} {c'} {q} {m} i e l p j =
        let l' = one_more l in
        let g = got_of e p in
        let y : u x g.value ≡ w x m = i g.value ∙ ap (w x) (sym g.is) in
        record { comes = record { rest = λ z. l'.rest (then_reads g.takes (rw y z)); ready = g.ready }; long = j ∙ l.long }

    pub chained-not : {t₁ : List ℕ} {c : Cursor} (of : Value → ℕ) {q : Read ℕ} {y : Refusal} {r : Step} → q ≡ Err y
        → IsErrAnd r (λ z. z ≡ y) → Chained f u s t₀ r₀ x₀ n t (Ok c) x k → NumberOf (f x) of s c t q t₁
        → Reader (chain f u x₀ n) s r₀ t₀ r t₁
    chained-not of e i l p = comes_then (one_more l) (number_not _ e i p)

    pub chained_refused : {t₁ : List ℕ} {r r₁ : Step} {y : Refusal} → Chained f u s t₀ r₀ x₀ n t r x k
        → Reader (f x) s r t r₁ t₁ → r₁ ≡ Err y → Reader (chain f u x₀ n) s r₀ t₀ r₁ t₁
    chained_refused l m e = comes_then (one_more l) (field_then m (λ v. at-refused e))

  pub chained-done : {t : List ℕ} {r : Step} {x : S} {k : ℕ} → k ≤ 0 → Chained f u s t₀ r₀ x₀ n t r x k
      → Reader (chain f u x₀ n) s r₀ t₀ r t
  chained-done {t} {r} {x} {k} h l =
      let l' : ComesTo (chain f u x₀ n) empty s r₀ t₀ r t = rw (chain-none f u x k h) at l.comes in comes_then l' (empty_then l'.ready)

-- a list of like items
pub record Turns (f : Format) (s : List ℕ) (t₀ : List ℕ) (r₀ : Step) (n : ℕ) (t : List ℕ) (r : Step) (k : ℕ) : Type 0 where
  pub chained : Chained {S = Unit {0}} (λ _. f) (λ _ _. tt) s t₀ r₀ tt n t r tt k
  pub ready : Ready s r
  pub long : length t ≡ length t₀

module _ {f : Format} {s : List ℕ} {t₀ : List ℕ} {r₀ : Step} {n : ℕ} where
  turns-of : {t : List ℕ} {r : Step} {k : ℕ} → Chained {S = Unit {0}} (λ _. f) (λ _ _. tt) s t₀ r₀ tt n t r tt k
      → Turns f s t₀ r₀ n t r k
  turns-of l = record { chained = l; ready = l.comes.ready; long = l.long }

  pub turns-start : Ready s r₀ → Turns f s t₀ r₀ n t₀ r₀ n
  turns-start h = turns-of (chained-start h)

  pub turns_more : {t t₁ : List ℕ} {r r₁ : Step} {k : ℕ} → 0 < k → Turns f s t₀ r₀ n t r k → Reader f s r t r₁ t₁
      → length t₁ ≡ length t → Turns f s t₀ r₀ n t₁ r₁ (k - 1)
  turns_more h l m e = turns-of (chained-plain h (λ _. refl) l.chained m e)

  pub turns-refused : {t t₁ : List ℕ} {r r₁ : Step} {k : ℕ} {x : Refusal} → 0 < k → Turns f s t₀ r₀ n t r k
      → Reader f s r t r₁ t₁ → r₁ ≡ Err x → Reader (times f n) s r₀ t₀ r₁ t₁
  turns-refused h l m e = chained_refused h l.chained m e

  pub turns-done : {t : List ℕ} {r : Step} {k : ℕ} → k ≤ 0 → Turns f s t₀ r₀ n t r k → Reader (times f n) s r₀ t₀ r t
  turns-done h l = chained-done h l.chained
