-- The laws of empty lists.
use Rattle.std.proofs.Common.{ℕ, suc, zero, ◌+◌, ◌-◌, ◌*◌, ◌≤◌, ◌<◌, ◌≡◌, refl, ap, ◌∙◌, List, true, arith, length, Ok}
use Rattle.format.specs.Trace.{settle, taken, end}
use Rattle.format.specs.Format.{Value, num, none, pair, number, Rule, count, Format, leaf, seq, chain, times}
use Rattle.format.specs.Reading.{trace_leaf, trace}
use Rattle.format.specs.Record.{words, words_leaf}
use Rattle.reader.specs.Contract.{ReadyAt, Takes, takes, Reader, ComesTo}
use Rattle.reader.specs.declared.Cursor.{Cursor}
use Rattle.reader.proofs.Settles.{guard-yes, room-yes, field-yes, pay-yes}
use Rattle.reader.proofs.Laws.{then_reads, then-takes}
use Rattle.empty_lists.specs.Empty.{Zero, Zeros, cursor_past, cursor_after, tape_after, PastEmpty}

-- ---- the loops

-- i of n counts were looked at: where their sum is 0, each is
pub record Looked (s : List ℕ) (p n sum i : ℕ) : Type 0 where
  pub upto : i ≤ n
  pub few : n ≤ 5
  pub room : p + 4 * n ≤ length s
  pub below : sum ≤ 4294967296 * i
  pub zeros : sum ≡ 0 → Zeros s p i

-- i of n lists were passed
pub record Passed (n : ℕ) (c : Cursor) (t : List ℕ) (here : Cursor) (t' : List ℕ) (i : ℕ) : Type 0 where
  pub upto : i ≤ n
  pub past : PastEmpty i c t here t'
  pub long : length t' ≡ length t

-- ---- one of them

zero-settles : (ρ : Rule) (m k z : ℕ) (s : List ℕ) (p b : ℕ) → Zero s p → ρ.test 0 ≡ true
    → settle b (trace_leaf (count ρ m k z) s p) ≡ taken (num 0) (p + 4) b
unfolding trace_leaf settle
zero-settles ρ m k z s p b o i =
    let x : 0 * z ≤ b = omega arith in
    let y : b - 0 * z ≡ b = omega arith in
    field-yes b 4 s p _ o.room ∙ rw o.is (guard-yes b _ _ _ i ∙ room-yes b _ s _ _ (omega (arith, o.room)) ∙ pay-yes b k (0 * z) (p + 4) (end (num 0) (p + 4)) x ∙ ap (λ l. taken (num 0) (p + 4) l) y)

count-takes : (ρ : Rule) (m k z : ℕ) (s : List ℕ) (c : Cursor) (t : List ℕ) → Zero s c.place → ρ.test 0 ≡ true
    → Takes (leaf (count ρ m k z)) s c t (num 0) (cursor_past c) (tape_after 1 c t)
unfolding trace words words_leaf
count-takes ρ m k z s c t o i = record { settles = zero-settles ρ m k z s c.place c.left o i; moves = refl; writes = refl }

none-takes : {S : Type 0} (f : S → Format) (u : S → Value → S) (x : S) (s : List ℕ) (c : Cursor) (t : List ℕ)
    → Takes (chain f u x 0) s c t none c t
unfolding chain trace settle words
none-takes f u x s c t = record { settles = refl; moves = omega arith; writes = refl }

past-ready : {s : List ℕ} {c : Cursor} → ReadyAt s c → Zero s c.place → ReadyAt s (cursor_past c)
past-ready r o = record { small = r.small; within = o.room; behind = omega (arith, r.behind) }

-- ---- n of them, one after the other
module _ {s : List ℕ} {c : Cursor} {n : ℕ} (r : ReadyAt s c) (o : Zeros s c.place n) where
  place_after : (k : ℕ) → (cursor_after k c).place ≡ c.place + 4 * k
  place_after zero = omega arith
  place_after (suc k) = omega (arith, place_after k)

  zero-after : (k : ℕ) → k < n → Zero s (cursor_after k c).place
  zero-after k h = rw (place_after k) (o.each k h)

  ready-after : (k : ℕ) → k ≤ n → ReadyAt s (cursor_after k c)
  ready-after zero h = r
  ready-after (suc k) h = past-ready (ready-after k (omega arith)) (zero-after k (omega arith))

  pub ready-passed : {t t' : List ℕ} {d : Cursor} {k : ℕ} → Passed n c t d t' k → ReadyAt s d
  ready-passed {k = k} l = rw l.past.is (ready-after k l.upto)

  module _ (t : List ℕ) (k : ℕ) (h : k < n) where
    -- a list whose items go by a state, as what is taken
    empty_takes : {S : Type 0} (f : S → Format) (u : S → Value → S) (x : S) {ρ : Rule} {m l z : ℕ}
        → ρ.test 0 ≡ true
        → Takes (seq (leaf (count ρ m l z)) (λ v. chain f u x (number v))) s (cursor_after k c) (tape_after k c t) (pair (num 0) none) (cursor_after (suc k) c) (tape_after (suc k) c t)
    empty_takes f u x {ρ} {m} {l} {z} i =
        then-takes (count-takes ρ m l z s (cursor_after k c) (tape_after k c t) (zero-after k h) i) (none-takes f u x s _ _)

    -- and as a reader's answer
    pub empty_chain : {S : Type 0} (f : S → Format) (u : S → Value → S) (x : S) {ρ : Rule} {m l z : ℕ}
        → ρ.test 0 ≡ true
        → Reader (seq (leaf (count ρ m l z)) (λ v. chain f u x (number v))) s (Ok (cursor_after k c)) (tape_after k c t) (Ok (cursor_after (suc k) c)) (tape_after (suc k) c t)
    empty_chain f u x i = record { reads = takes (empty_takes f u x i); ready = ready-after (suc k) (omega arith) }

    -- a list of like items
    pub empty_read : (f : Format) {ρ : Rule} {m l z : ℕ} → ρ.test 0 ≡ true
        → Reader (seq (leaf (count ρ m l z)) (λ v. times f (number v))) s (Ok (cursor_after k c)) (tape_after k c t) (Ok (cursor_after (suc k) c)) (tape_after (suc k) c t)
    empty_read f i = empty_chain {S = Unit {0}} (λ _. f) (λ _ _. tt) tt i

    -- such a list, and a rest that goes by its value
    pub empty_comes : (f : Format) {ρ : Rule} {m l z : ℕ} {g : Value → Format} → ρ.test 0 ≡ true
        → ComesTo (seq (seq (leaf (count ρ m l z)) (λ v. times f (number v))) g) (g (pair (num 0) none)) s (Ok (cursor_after k c)) (tape_after k c t) (Ok (cursor_after (suc k) c)) (tape_after (suc k) c t)
    empty_comes f i = record { rest = λ y. then_reads (empty_takes {S = Unit {0}} (λ _. f) (λ _ _. tt) tt i) y; ready = ready-after (suc k) (omega arith) }
