-- The laws of readers that answer a record.
use Rattle.std.specs.Prelude.{Ok, Err}
use Rattle.std.specs.Result.{IsErrAnd}
use Prim.Native.Nat.{ℕ, suc, zero, ◌+◌, ◌*◌, ◌^◌, ◌≤◌, ◌<◌}
use mathlib.Core.Path.{◌≡◌, ap, sym, ◌∙◌}
use mathlib.Core.List.{List}
use native.Mathlib.Omega.{arith}
use native.Mathlib.Nat.{suc-mul}
use lib.ListN.{get_or}
use Rattle.format.specs.Trace.{Out, ended, out, Ends}
use Rattle.format.specs.Format.{Value, number, first, second, counted, Rule, byte, Width, fixed, count, Format, empty, leaf, seq, ◌▸◌, chain, times}
use Rattle.format.specs.Reading.{little, part, size, trace}
use Rattle.format.proofs.TraceTheorems.{part_length, leaf-ends, seq-ends}
use Rattle.format.specs.Layout.{Bytes}
use Rattle.format.proofs.LayoutTheorems.{digits-little}
use Rattle.vob24.specs.Refusals.{vector}
use Rattle.vob24.specs.Leaves.{list_of, choose}
use Rattle.reader.specs.Contract.{ReadyAt, Takes, takes, refuses, Reader, ReadsOf, lost, NumberOf, Step, Read}
use Rattle.reader.specs.declared.Cursor.{Cursor}
use Rattle.reader.specs.declared.Refusal.{Refusal}
use Rattle.reader.proofs.Errors.{handed, apart}
use Rattle.reader.proofs.Laws.{takes-ends, then_reads, got_of, number_not, number_then, empty_then}
use Rattle.reader.proofs.Gather.{read_take, bytes_read}
use Rattle.reader.specs.Recorded.{Recorded, RecordOf, recorded, unrecorded}

-- what ends a trace ends it once
same_end : {o : Out Value} {v w : Value} {p q : ℕ} → o ≡ ended v p → o ≡ ended w q → (v ≡ w) × (p ≡ q)
same_end h k = (cc, cc)

-- ---- what is refused

-- a reading that is refused
pub record Lost (f : Format) (s : List ℕ) (c : Cursor) (t : List ℕ) (r : Step) (t' : List ℕ) : Type 0 where
  pub reader : Reader f s (Ok c) t r t'
  pub why : Refusal
  pub is : r ≡ Err why

module _ {f : Format} {of : Value → ℕ} {s : List ℕ} {c : Cursor} {q : Read ℕ} {t t₁ : List ℕ} where
  -- at this part, which has others after it
  pub lost_here : {g : Value → Format} {x : Refusal} {r : Step} {t₂ : List ℕ} → q ≡ Err x → IsErrAnd r (λ y. y ≡ x)
      → NumberOf f of s c t q t₁ → Lost (seq f g) s c t r t₂
  lost_here {g} {x} {r} e i h = record { reader = number_not g e i h; why = x; is = handed r i }

  -- at this part, the last
  pub lost_last : {x : Refusal} {r : Step} {t₂ : List ℕ} → q ≡ Err x → IsErrAnd r (λ y. y ≡ x) → NumberOf f of s c t q t₁
      → Lost f s c t r t₂
  lost_last {x} {r} {t₂} e i h = record { reader = rw (handed r i) (go (rw e at h.reads)); why = x; is = handed r i }
    where
      go : ReadsOf f of s c t (Err x) t₁ → Reader f s (Ok c) t (Err x) t₂
      go (lost a) = record { reads = refuses a; ready = tt }

  -- at a later one
  pub lost_then : {g : Value → Format} {n : ℕ} {d : Cursor} {r : Step} {t₂ : List ℕ} → q ≡ Ok (n, d)
      → NumberOf f of s c t q t₁ → ((v : Value) → Lost (g v) s d t₁ r t₂) → Lost (seq f g) s c t r t₂
  lost_then e h k = let m = got_of e h in let l = k m.value in record { reader = record { reads = then_reads m.takes l.reader.reads; ready = l.reader.ready }; why = l.why; is = l.is }

-- ---- what is taken

module _ {R : Type 0} {s : List ℕ} {c : Cursor} {t : List ℕ} where
  -- of what is refused nothing is said
  pub recorded_not : {f : Format} {rec : ℕ → Value → R} {x : R} {r : Step} {t₁ : List ℕ} → Lost f s c t r t₁
      → Recorded f rec s c t r x t₁
  recorded_not l = record { reader = l.reader; is = λ d v i k. apart (sym l.is ∙ i) }

  -- nothing is read
  pub recorded_empty : {x y : R} → ReadyAt s c → x ≡ y → Recorded empty (λ _ _. y) s c t (Ok c) x t
  recorded_empty h i = record { reader = empty_then h; is = λ d v j k. i }

  -- a value
  pub recorded_value : {f : Format} {rec : ℕ → Value → R} {v : Value} {d : Cursor} {x : R} {t₁ : List ℕ} → ReadyAt s d
      → Takes f s c t v d t₁ → x ≡ rec c.place v → Recorded f rec s c t (Ok d) x t₁
  recorded_value {rec = rec} r h i = record { reader = record { reads = takes h; ready = r }; is = λ b w j k. i ∙ ap (rec c.place) (sym (same_end k (takes-ends h)).0) }

  -- the place is p
  pub recorded_place : {f : Format} {rec : ℕ → Value → R} {x : R} {r : Step} {t₁ : List ℕ} {p : ℕ} → c.place ≡ p
      → Recorded f rec s c t r x t₁ → Recorded f (λ _ v. rec p v) s c t r x t₁
  recorded_place {rec = rec} e h = record { reader = h.reader; is = λ d v i k. h.is d v i k ∙ ap (λ (o : ℕ). rec o v) e }

  module _ {f : Format} {of : Value → ℕ} {q : Read ℕ} {t₁ : List ℕ} {n : ℕ} {d : Cursor} (e : q ≡ Ok (n, d)) (h : NumberOf f of s c t q t₁) where
    -- a number, and the record of what follows by it
    pub recorded_then : (g : ℕ → Format) (rec : ℕ → ℕ → Value → R) {x : R} {r : Step} {t₂ : List ℕ}
        → Recorded (g n) (λ _ v. rec n c.place v) s d t₁ r x t₂
        → Recorded (seq f (λ v. g (of v))) (λ p v. rec (of (first v)) p (second v)) s c t r x t₂
    recorded_then g rec {x} {r} k = record { reader = number_then g e h k.reader; is = go }
      where
        go : (b : Cursor) (v : Value) → r ≡ Ok b → Ends (trace (seq f (λ v. g (of v))) s c.place) v b.place
            → x ≡ rec (of (first v)) c.place (second v)
        go b v i j =
            let m = got_of e h in
            let o = seq-ends f (λ v. g (of v)) s c.place j in
            let y = same_end o.fore (takes-ends m.takes) in
            let z : of (first v) ≡ n = ap of y.0 ∙ sym m.is in
            rw z (k.is b (second v) i (rw (z, y.1) at o.back))

    -- a number, and nothing after it
    pub recorded_last : (rec : ℕ → ℕ → R) {x : R} → x ≡ rec n c.place
        → Recorded f (λ p v. rec (of v) p) s c t (Ok d) x t₁
    recorded_last rec i = let m = got_of e h in recorded_value m.ready m.takes (i ∙ ap (λ (o : ℕ). rec o c.place) m.is)

-- two numbers, and what follows by them or nothing; three; four
module _ {R : Type 0} {s : List ℕ} {c c₁ c₂ : Cursor} {t t₁ t₂ : List ℕ} {f₁ f₂ : Format} {of₁ of₂ : Value → ℕ} {q₁ q₂ : Read ℕ} {n₁ n₂ : ℕ}
    (e₁ : q₁ ≡ Ok (n₁, c₁)) (h₁ : NumberOf f₁ of₁ s c t q₁ t₁) (e₂ : q₂ ≡ Ok (n₂, c₂)) (h₂ : NumberOf f₂ of₂ s c₁ t₁ q₂ t₂) where
  pub recorded_two : (g : Format) (rec : ℕ → ℕ → ℕ → Value → R) {x : R} {r : Step} {t' : List ℕ}
      → Recorded g (λ _ v. rec n₁ n₂ c.place v) s c₂ t₂ r x t'
      → Recorded (f₁ ▸ f₂ ▸ g) (λ p v. rec (of₁ (first v)) (of₂ (first (second v))) p (second (second v))) s c t r x t'
  recorded_two g rec k = recorded_then e₁ h₁ (λ _. f₂ ▸ g) (λ a p v. rec a (of₂ (first v)) p (second v)) (recorded_then e₂ h₂ (λ _. g) (λ b _ v. rec n₁ b c.place v) k)

  pub last_two : (rec : ℕ → ℕ → ℕ → R) {x : R} → x ≡ rec n₁ n₂ c.place
      → Recorded (f₁ ▸ f₂) (λ p v. rec (of₁ (first v)) (of₂ (second v)) p) s c t (Ok c₂) x t₂
  last_two rec i = recorded_then e₁ h₁ (λ _. f₂) (λ a p v. rec a (of₂ v) p) (recorded_last e₂ h₂ (λ b _. rec n₁ b c.place) i)

  module _ {c₃ : Cursor} {t₃ : List ℕ} {f₃ : Format} {of₃ : Value → ℕ} {q₃ : Read ℕ} {n₃ : ℕ} (e₃ : q₃ ≡ Ok (n₃, c₃)) (h₃ : NumberOf f₃ of₃ s c₂ t₂ q₃ t₃) where
    pub last_three : (rec : ℕ → ℕ → ℕ → ℕ → R) {x : R} → x ≡ rec n₁ n₂ n₃ c.place
        → Recorded (f₁ ▸ f₂ ▸ f₃) (λ p v. rec (of₁ (first v)) (of₂ (first (second v))) (of₃ (second (second v))) p) s c t (Ok c₃) x t₃
    last_three rec i = recorded_two f₃ (λ a b p v. rec a b (of₃ v) p) (recorded_last e₃ h₃ (λ b _. rec n₁ n₂ b c.place) i)

    module _ {c₄ : Cursor} {t₄ : List ℕ} {f₄ : Format} {of₄ : Value → ℕ} {q₄ : Read ℕ} {n₄ : ℕ} (e₄ : q₄ ≡ Ok (n₄, c₄)) (h₄ : NumberOf f₄ of₄ s c₃ t₃ q₄ t₄) where
      pub last_four : (rec : ℕ → ℕ → ℕ → ℕ → R) {x : R} → x ≡ rec n₁ n₂ n₃ n₄
          → Recorded (f₁ ▸ f₂ ▸ f₃ ▸ f₄) (λ _ v. rec (of₁ (first v)) (of₂ (first (second v))) (of₃ (first (second (second v)))) (of₄ (second (second (second v))))) s c t (Ok c₄) x t₄
      last_four rec i = recorded_two (f₃ ▸ f₄) (λ a b _ v. rec a b (of₃ (first v)) (of₄ (second v))) (recorded_then e₃ h₃ (λ _. f₄) (λ a _ v. rec n₁ n₂ a (of₄ v)) (recorded_last e₄ h₄ (λ a _. rec n₁ n₂ n₃ a) i))

-- ---- an answer with its record

module _ {R : Type 0} {f : Format} {of : ℕ → Value → R} {s : List ℕ} {c : Cursor} {t t₁ : List ℕ} where
  pub record_lost : {q : Read R} {r : Step} {x : Refusal} → r ≡ Err x → IsErrAnd q (λ y. y ≡ x) → Lost f s c t r t₁
      → RecordOf f of s c t q t₁
  record_lost {q} e i l = rw (handed q i) (unrecorded (rw e at l.reader))

  -- the answer without its record
  pub record_just : {q : Read R} {x : R} {d : Cursor} → q ≡ Ok (x, d) → RecordOf f of s c t q t₁ → Reader f s (Ok c) t (Ok d) t₁
  record_just {q} {x} {d} e h = go (rw e at h)
    where
      go : RecordOf f of s c t (Ok (x, d)) t₁ → Reader f s (Ok c) t (Ok d) t₁
      go (recorded k) = k.reader

  pub record_not : {q : Read R} {r : Step} {x : Refusal} → q ≡ Err x → IsErrAnd r (λ y. y ≡ x) → RecordOf f of s c t q t₁
      → Reader f s (Ok c) t r t₁
  record_not {q} {r} {x} e i h = rw (handed r i) (go (rw e at h))
    where
      go : RecordOf f of s c t (Err x) t₁ → Reader f s (Ok c) t (Err x) t₁
      go (unrecorded k) = k

-- ---- numbers of a fixed width

module _ {w : Width} {ρ : Rule} {s : List ℕ} {c d : Cursor} {q : Read ℕ} {n : ℕ} {t t₁ : List ℕ} (e : q ≡ Ok (n, d)) where
  -- the place after it
  pub fixed-place : {of : Value → ℕ} → NumberOf (leaf (fixed w ρ)) of s c t q t₁ → d.place ≡ c.place + size w
  unfolding trace
  fixed-place h = (leaf-ends (fixed w ρ) s c.place (takes-ends (got_of e h).takes)).3

  -- it fits its type, as the pack's elements are bytes
  pub fixed-fits : NumberOf (leaf (fixed w ρ)) number s c t q t₁ → ((i : ℕ) → get_or s i 0 < 256) → n < 256 ^ size w
  unfolding trace
  fixed-fits h b =
      let g = got_of e h in
      let p = leaf-ends (fixed w ρ) s c.place (takes-ends g.takes) in
      let i : n ≡ little (part s c.place (size w)) = g.is ∙ ap number p.2 in
      let l = part_length s c.place (size w) p.0 in
      let y : Bytes (part s c.place (size w)) = rw (read_take (size w) s c.place p.0) (bytes_read (size w) s c.place b) in
      let x = (digits-little (part s c.place (size w)) y).1 in
      rw i (rw l at x)

fixed-end : (w : Width) (ρ : Rule) (n : ℕ) (s : List ℕ) (p : ℕ) {v : Value} {q : ℕ}
    → Ends (trace (times (leaf (fixed w ρ)) n) s p) v q → q ≡ p + n * size w
unfolding chain trace out
fixed-end w ρ zero s p {v} {q} h = let e : q ≡ p = cc in omega arith
fixed-end w ρ (suc n) s p h =
    let b = seq-ends (leaf (fixed w ρ)) (λ _. times (leaf (fixed w ρ)) n) s p h in
    let e = (leaf-ends (fixed w ρ) s p b.fore).3 in
    let i = fixed-end w ρ n s b.mid b.back in
    omega (arith, e, i, suc-mul n (size w))

-- the place after a list of them
pub list-place : (w : Width) (ρ' : Rule) {ρ : Rule} {z : ℕ} {s : List ℕ} {c d : Cursor} {q : Read ℕ} {n : ℕ} {t t₁ : List ℕ}
    → q ≡ Ok (n, d) → NumberOf (list_of ρ z (leaf (fixed w ρ'))) counted s c t q t₁ → d.place ≡ c.place + 4 + n * size w
unfolding trace
list-place w ρ' {ρ} {z} {s} {c} {d} {q} {n} e h =
    let g = got_of e h in
    let b = seq-ends (leaf (count ρ 1 vector z)) (λ v. times (leaf (fixed w ρ')) (number v)) s c.place (takes-ends g.takes) in
    let l = leaf-ends (count ρ 1 vector z) s c.place b.fore in
    let i = fixed-end w ρ' (number (first g.value)) s b.mid b.back in
    rw g.is (omega (arith, l.3, i))

-- a law of a record and its step, as one of the answer
pub record_on : {R : Type 0} (o : R) {f g : Format} {of of' : ℕ → Value → R} {s : List ℕ} {c d : Cursor} {t t₁ t₂ : List ℕ} {q : Read R}
    → ((r : Step) (x : R) → Recorded g of' s d t₁ r x t₂ → Recorded f of s c t r x t₂) → RecordOf g of' s d t₁ q t₂
    → RecordOf f of s c t q t₂
record_on o k (recorded a) = recorded (k _ _ a)
record_on o k (unrecorded a) = unrecorded (k _ o (record { reader = a; is = λ d v i j. apart i })).reader

-- ---- a record by its tag

-- a tag from k on that is not k
pub above : {n k : ℕ} → k ≤ n → (n ≡ k → ⊥) → k + 1 ≤ n
above h i = omega arith

pub variant_at : {R : Type 0} {ρ : Rule} (fs : List Format) (rs : ℕ → Value → List R) (o : R) (k : ℕ) {s : List ℕ} {c d : Cursor} {q : Read ℕ} {n : ℕ} {x : R} {r : Step} {t t₁ t₂ : List ℕ}
    → q ≡ Ok (n, d) → n ≡ k → NumberOf (leaf (fixed byte ρ)) number s c t q t₁
    → Recorded (get_or fs k empty) (λ p v. get_or (rs p v) k o) s d t₁ r x t₂
    → Recorded (choose ρ fs) (λ p v. get_or (rs (p + 1) (second v)) (number (first v)) o) s c t r x t₂
variant_at fs rs o k e i h m = recorded_then e h (λ n. get_or fs n empty) (λ n p v. get_or (rs (p + 1) v) n o) (rw i (recorded_place (fixed-place e h) m))
