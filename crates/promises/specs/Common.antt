-- What holds alike of the call on a whole pack and of a section call: both settle a charge list and write the record.
use Rattle.std.specs.Prelude.{ℕ, ◌+◌, ◌-◌, ◌≤◌, ◌<◌, ◌≡◌, refl, List, [], ◌++◌, ◌↔◌, Bool, true, false, not, length, take, drop, replicate, T, leb}
use Rattle.std.proofs.Common.{ap, sym, ◌∙◌, arith, length-append, length-drop, take_at, leb→le}
use Rattle.std.proofs.lemmas.List.{length-replicate}
use Rattle.std.proofs.Math.Seq.{drop-append_seam}
use Rattle.std.proofs.Math.Dec.{nleb→lt}
use Rattle.format.specs.Trace.{Wrong, Trace, pick, amounts, total, stopped, out, Ends, Settled, refused, taken, settle}
use Rattle.format.specs.Format.{Value, Format}
use Rattle.format.specs.Record.{words, decode, Held}
use Rattle.format.specs.SettleTheorems.{settle-taken}
use Rattle.format.proofs.ChargeSums.{trace-charges}
use Rattle.format.specs.PlacesRise.{Rising, place_of}
use Rattle.format.proofs.PlacesRise.{settle-within}
use Rattle.vob24.specs.Refusals
use Rattle.vob24.specs.PackCost.{Costs}
use Rattle.vob24.specs.Calls.{Answer, Taken, Refused, Outcome, no_room_for, closing}
use Rattle.vob24.proofs.CallTheorems as of
use Rattle.vob24.specs.CallTheorems.{left_of, Account, IsTaken, IsBroke, Reads}
use Rattle.vob24.proofs.CallTheorems.{taken-record, call-texts, call-record, call-cost}
use Rattle.vob24_theorems.specs.RefusalNumbers.{Listed}

-- "A refusal changes no lent memory, an acceptance only the tape's counted words": the tape at entry, and at exit.
abbrev pub Kept : Answer → List ℕ → List ℕ → Type 0
Kept (Taken w n c l) t t' = (length t' ≡ length t) × (drop w t' ≡ drop w t)
Kept (Refused x p l) t t' = t' ≡ t

abbrev pub AnswersTaken : Answer → Type 0
AnswersTaken q = (w n c l : ℕ) × (q ≡ Taken w n c l)

-- The bytes taken from the place a on, or the place shown, lie before e.
abbrev pub StaysWithin : ℕ → ℕ → Answer → Type 0
StaysWithin a e (Taken w n c l) = a + n ≤ e
StaysWithin a e (Refused x p l) = (a ≤ p) × (p ≤ e)

-- The answer q and the tape t' at exit are those of reading f from the place a on, by this charge list, under the
-- budget b.
pub record Call (f : Format) (tr : Trace Value) (a b : ℕ) (t : List ℕ) (q : Answer) (t' : List ℕ) : Type 0 where
  pub is : closing f a b t (settle b tr) ≡ record { answer = q; tape = t' }

-- an outcome with room, and one without
room : (f : Format) (a b : ℕ) (t : List ℕ) (P : Outcome → Type 0) (v : Value) (p l : ℕ)
    → (length (words f v) ≤ length t → P (record { answer = Taken (length (words f v)) (p - a) (b - l) l; tape = words f v ++ drop (length (words f v)) t }))
    → (length t < length (words f v) → P (record { answer = Refused (no_room_for (length (words f v)) (length t)) p l; tape = t }))
    → P (closing f a b t (taken v p l))
unfolding pick
room f a b t P v p l h k = go (leb (length (words f v)) (length t)) (λ d. h (leb→le _ _ d)) (λ d. k (nleb→lt _ _ d))
  where
    go : (d : Bool)
        → (T d → P (record { answer = Taken (length (words f v)) (p - a) (b - l) l; tape = words f v ++ drop (length (words f v)) t }))
        → (T (not d) → P (record { answer = Refused (no_room_for (length (words f v)) (length t)) p l; tape = t }))
        → P (pick d (record { answer = Taken (length (words f v)) (p - a) (b - l) l; tape = words f v ++ drop (length (words f v)) t }) (record { answer = Refused (no_room_for (length (words f v)) (length t)) p l; tape = t }))
    go true h k = h tt
    go false h k = k tt

closing-kept : (f : Format) (a b : ℕ) (t : List ℕ) (r : Settled Value)
    → Kept (closing f a b t r).answer t (closing f a b t r).tape
closing-kept f a b t (refused x p l) = refl
closing-kept f a b t (taken v p l) =
    room f a b t (λ o. Kept o.answer t o.tape) v p l
    (λ h. (simp (length-append, length-drop) (omega arith), drop-append_seam (words f v) (drop (length (words f v)) t)))
    (λ _. refl)

closing-within : (f : Format) (a b e : ℕ) (t : List ℕ) (r : Settled Value) → a ≤ place_of r → place_of r ≤ e
    → StaysWithin a e (closing f a b t r).answer
unfolding place_of
closing-within f a b e t (refused x p l) h k = (h, k)
closing-within f a b e t (taken v p l) h k = room f a b t (λ o. StaysWithin a e o.answer) v p l (λ _. omega arith) (λ _. (h, k))

-- the charges of a list that ends with a value are the value's cost
pub ends-cost : {f : Format} {tr : Trace Value} {s : List ℕ} {a : ℕ} {cost : Value → ℕ} → Reads f tr s a → Costs f cost
    → {v : Value} {p : ℕ} → Ends tr v p → total tr ≡ cost v
ends-cost {f} {s = s} {a = a} reads costs {v} h = let e = reads.inner h in e.1 ∙ trace-charges f s a e.0 ∙ costs.is v

-- Some budget and tape do where the list ends with a value, and only there: its total, and a tape of as many words as
-- the record has.
pub some-when : (f : Format) (a : ℕ) (t : Trace Value) (most : ℕ) → ((v : Value) (q : ℕ) → Ends t v q → total t < most)
    → ((b : ℕ) × (tape : List ℕ) × (w n c l : ℕ) × (b < most) × ((closing f a b tape (settle b t)).answer ≡ Taken w n c l)) ↔ ((v : Value) × (q : ℕ) × Ends t v q)
some-when f a t most fits = (to, from)
  where
    to : (b : ℕ) × (tape : List ℕ) × (w n c l : ℕ) × (b < most) × ((closing f a b tape (settle b t)).answer ≡ Taken w n c l)
        → (v : Value) × (q : ℕ) × Ends t v q
    to h = let k = of.only-when f a h.0 h.1 t h.7 in (k.value, k.place, k.ends)

    from : (v : Value) × (q : ℕ) × Ends t v q
        → (b : ℕ) × (tape : List ℕ) × (w n c l : ℕ) × (b < most) × ((closing f a b tape (settle b t)).answer ≡ Taken w n c l)
    from h =
        let m = length (words f h.0) in
        let tape = replicate {A = ℕ} m 0 in
        let r = of.taken-when f a (total t) tape t h.2 (omega arith) (omega (arith, length-replicate {A = ℕ} m 0)) in
        (total t, tape, m, h.1 - a, total t, total t - total t, fits h.0 h.1 h.2, ap (λ o. o.answer) r)

module _ {f : Format} {tr : Trace Value} {a b : ℕ} {t : List ℕ} {q : Answer} {t' : List ℕ} (call : Call f tr a b t q t') where
  answer : (closing f a b t (settle b tr)).answer ≡ q
  answer = ap (λ o. o.answer) call.is

  tape : (closing f a b t (settle b tr)).tape ≡ t'
  tape = ap (λ o. o.tape) call.is

  so : {q₁ : Answer} {t₁ : List ℕ} → closing f a b t (settle b tr) ≡ record { answer = q₁; tape = t₁ }
      → (q ≡ q₁) × (t' ≡ t₁)
  so e = (sym answer ∙ ap (λ o. o.answer) e, sym tape ∙ ap (λ o. o.tape) e)

  pub kept : Kept q t t'
  kept = rw (← answer, ← tape) (closing-kept f a b t (settle b tr))

  pub within : (e : ℕ) → Rising a e tr → StaysWithin a e q
  within e r = let h = settle-within a e b tr r in rw (← answer) (closing-within f a b e t (settle b tr) h.0 h.1)

  pub account : Account (amounts tr) b (left_of q)
  account = rw (← answer) (of.account f a b t tr)

  pub taken_at : {v : Value} {p : ℕ} → Ends tr v p → total tr ≤ b → length (words f v) ≤ length t
      → (q ≡ Taken (length (words f v)) (p - a) (total tr) (b - total tr)) × (t' ≡ words f v ++ drop (length (words f v)) t)
  taken_at e h k = so (of.taken-when f a b t tr e h k)

  pub stopped-at : {x : Wrong} {p : ℕ} → out tr ≡ stopped x p → total tr ≤ b
      → (q ≡ Refused x p (b - total tr)) × (t' ≡ t)
  stopped-at e h = so (of.stopped-at f a b t tr e h)

  pub broke-at : b < total tr → IsBroke tr b q × (t' ≡ t)
  broke-at h = let r = of.short-budget f a b t tr h in (rw answer at r.0, sym tape ∙ r.1)

  pub short-at : {v : Value} {p : ℕ} → Ends tr v p → total tr ≤ b → length t < length (words f v)
      → (q ≡ Refused (no_room_for (length (words f v)) (length t)) p (b - total tr)) × (t' ≡ t)
  short-at e h k = so (of.short-tape f a b t tr e h k)

  -- taken and 26, only so
  pub only : {w n c l : ℕ} → q ≡ Taken w n c l → IsTaken f tr a b t w n c l
  only e = of.only-when f a b t tr (answer ∙ e)

  pub short-only : {x : Wrong} {p l : ℕ} → ((y : Wrong) (i j : ℕ) → settle b tr ≡ refused y i j → Listed y)
      → q ≡ Refused x p l → x.number ≡ Refusals.no_room
      → (v : Value) × Ends tr v p × (total tr ≤ b) × (length t < length (words f v))
  short-only {x} {p} {l} listed e n = go (settle b tr) refl (answer ∙ e)
    where
      go : (r : Settled Value) → settle b tr ≡ r → (closing f a b t r).answer ≡ Refused x p l
          → (v : Value) × Ends tr v p × (total tr ≤ b) × (length t < length (words f v))
      go (refused y i j) s e = let same : y ≡ x = cc in absurd (omega (arith, (listed y i j s).most, ap (λ w. w.number) same))
      go (taken v i j) s e =
          room f a b t (λ o. o.answer ≡ Refused x p l → (v : Value) × Ends tr v p × (total tr ≤ b) × (length t < length (words f v))) v i j
          (λ _ e. let no : ◌≡◌ {A = ℕ} 0 1 = cc in absurd (omega arith))
          (λ k e. let r = (settle-taken b tr v i j).0 s in let at : i ≡ p = cc in (v, rw at at r.0, r.1, k))
          e

  module _ {w n c l : ℕ} (e : q ≡ Taken w n c l) where
    pub charged : (c ≡ total tr) × (c + l ≡ b)
    charged = let k = only e in (k.charged, omega (arith, k.charged, k.leaves, k.reaches))

    pub recorded : take w t' ≡ words f (only e).value
    recorded = rw tape at (taken-record (only e))

  -- what is read is a file's
  module _ {s : List ℕ} (reads : Reads f tr s a) {cost : Value → ℕ} (costs : Costs f cost) where
    -- taken exactly where the list ends with a value of the kind that the file may hold, and budget and tape reach
    pub taken-where : (Lays : Value → Type 0) → ((v : Value) (p : ℕ) → Ends tr v p → Lays v)
        → ((v : Value) → Lays v → (p : ℕ) × Ends tr v p)
        → AnswersTaken q ↔ ((v : Value) × Lays v × (cost v ≤ b) × (length (words f v) ≤ length t))
    taken-where Lays to from = (
      λ h. let k = only h.4 in (k.value, to k.value k.place k.ends, omega (arith, ends-cost reads costs k.ends, k.reaches), omega (arith, k.counts, k.room)),
      λ h. let e = from h.0 h.1 in let r = taken_at e.1 (omega (arith, ends-cost reads costs e.1)) h.3 in (_, _, _, _, r.0),
    )

    module _ {w n c l : ℕ} (e : q ≡ Taken w n c l) where
      pub decoded : (decode f (take w t') s ≡ ((only e).value, [])) × (length (take w t') ≡ w) × (w ≤ n)
      decoded = rw tape at (call-record reads (only e))

      -- the cost of the record, by the file's texts or by any that stand in the same places
      pub charged-cost : (s' : List ℕ) → Held (decode f (take w t') s).0 s' → c ≡ cost (decode f (take w t') s').0
      charged-cost s' h = rw tape at (call-cost reads (only e) costs s' (rw (ap (λ x. x.0) decoded.0) at h))

      pub texts : Held (decode f (take w t') s).0 s
      texts = rw decoded.0 (call-texts reads (only e))

-- read again by the same charge list, with tape enough
pub again : {f : Format} {tr : Trace Value} {a b : ℕ} {t : List ℕ} {q : Answer} {t' : List ℕ} → Call f tr a b t q t'
    → {w n c l : ℕ} → q ≡ Taken w n c l
    → {b₂ : ℕ} {t₂ : List ℕ} {q₂ : Answer} {t₂' : List ℕ} → Call f tr a b₂ t₂ q₂ t₂' → w ≤ length t₂
    → (((q₂ ≡ Taken w n c (b₂ - c)) × (take w t₂' ≡ take w t')) ↔ (c ≤ b₂)) × (b₂ < c → IsBroke tr b₂ q₂ × (t₂' ≡ t₂))
again {f} {tr} {a} {b} {t} {q} {t'} call {w} {n} {c} {l} e {b₂} {t₂} {q₂} {t₂'} call₂ room = ((to, from), λ h. broke-at call₂ (omega (arith, k.charged)))
  where
    k : IsTaken f tr a b t w n c l
    k = only call e

    from : c ≤ b₂ → (q₂ ≡ Taken w n c (b₂ - c)) × (take w t₂' ≡ take w t')
    from h =
        let r = taken_at call₂ k.ends (omega (arith, k.charged)) (omega (arith, k.counts)) in
        (cc (r.0, k.counts, k.bytes, k.charged), ap (take w) r.1 ∙ take_at (words f k.value) _ w (sym k.counts) ∙ sym (recorded call e))

    to : (q₂ ≡ Taken w n c (b₂ - c)) × (take w t₂' ≡ take w t') → c ≤ b₂
    to h = omega (arith, k.charged, (only call₂ h.0).reaches)
