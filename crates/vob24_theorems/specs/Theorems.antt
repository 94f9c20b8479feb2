-- The charge lists of the two calls, under all settings: what they read, where they end, what they sum up to, and their
-- places. The promises of the calls (crate promises) rest on these.
use Rattle.std.specs.Prelude.{ℕ, ◌+◌, ◌-◌, ◌^◌, ◌≤◌, ◌<◌, ◌≡◌, List, Bool, ◌↔◌, length, leb}
use Rattle.std.proofs.Math.Path.{ap}
use Rattle.std.proofs.Common.{sym, ◌∙◌, take_all, le→leb}
use native.Mathlib.Omega.{arith}
use Rattle.std.proofs.Math.Seq.{take-length}
use Rattle.std.proofs.Math.Dec.{eqb, leb→le, eqb→eq, eqb_refl}
use Rattle.format.specs.Trace.{Wrong, wrong, Trace, end, bind, guard, amounts, sum, total, ended, out, Ends, settle}
use Rattle.format.specs.Format.{Value}
use Rattle.format.specs.Reading.{part, trace}
use Rattle.format.specs.Record.{Held}
use Rattle.format.specs.Layout.{Bytes, Valid, bytes}
use Rattle.format.specs.SettleTheorems.{then_s, settle-bind}
use Rattle.format.proofs.TraceTheorems.{Ends-bind, bind-out, Ends-guard, guard-true, trace-within}
use Rattle.format.specs.LayoutTheorems.{At}
use Rattle.format.proofs.CountsCovered.{layout-iff}
use Rattle.format.proofs.RecordTheorems.{trace-held}
use Rattle.format.proofs.ChargeBound.{guard-under, end-free}
use Rattle.format.specs.PlacesRise.{Rising}
use Rattle.format.proofs.PlacesRise.{rising-bind, rising-guard, rising-end, trace-rising}
use Rattle.vob24.specs.Refusals
use Rattle.vob24.specs.Settings.{Settings, Licensed, max_pack_bytes}
use Rattle.vob24.specs.Grammar.{Section, section, pack}
use Rattle.vob24_theorems.specs.PackLayout.{closed-section, closed-pack}
use Rattle.vob24_theorems.specs.PackBound.{section-bound, pack-bound}
use Rattle.vob24.specs.Calls.{Taken, too_large, whole_trace, section_trace, section_outcome}
use Rattle.vob24.specs.CallTheorems.{Reads}
use Rattle.vob24.proofs.CallTheorems.{only-when}

-- a last question charges nothing
judged : (t : Trace Value) (d : Value → ℕ → Bool) (w : Value → ℕ → Wrong)
    → total (bind t (λ v q. guard (d v q) (w v q) q (end v q))) ≤ total t
unfolding bind amounts sum
judged (Trace.stop w p) d w' = omega arith
judged (end v p) d w' = guard-under (d v p) (w' v p) p (end v p) 0 (λ _. omega (arith, end-free v p))
judged (Trace.charge c n p t) d w' = omega (arith, judged t d w')
judged (Trace.needs n p t) d w' = judged t d w'

module _ (set : Settings) where
  -- ---- the charge lists of the two calls, and that of the format between their questions

  whole-ends : (s : List ℕ) {v : Value} {q : ℕ} → Ends (whole_trace set s) v q
      → (length s ≤ max_pack_bytes) × Ends (trace (pack set) s 0) v (length s) × (q ≡ length s) × (total (whole_trace set s) ≡ total (trace (pack set) s 0))
  unfolding whole_trace out amounts sum
  whole-ends s {v} {q} h =
      let a = Ends-guard _ _ _ _ h in
      let b = Ends-bind (trace (pack set) s 0) (λ v q. guard (eqb q (length s)) (wrong Refusals.trailing_bytes (length s - q)) q (end v q)) a.1 in
      let c = Ends-guard _ _ _ _ b.3 in
      let e = eqb→eq b.1 (length s) c.0 in
      let x : v ≡ b.0 = cc in
      let y : q ≡ b.1 = cc in
      (leb→le (length s) max_pack_bytes a.0, b.2 ∙ cc, omega arith, a.2 ∙ (bind-out _ _ b.2).1 ∙ omega (arith, c.2))

  pub whole-end : (s : List ℕ) {v : Value} {q : ℕ} → Ends (whole_trace set s) v q → q ≡ length s
  whole-end s h = (whole-ends s h).2

  -- before the questions of 24 and 26
  pub whole-settled : (s : List ℕ) (b : ℕ) → length s ≤ max_pack_bytes
      → settle b (whole_trace set s) ≡ then_s (settle b (trace (pack set) s 0)) (λ v q l. settle l (guard (eqb q (length s)) (wrong Refusals.trailing_bytes (length s - q)) q (end v q)))
  unfolding whole_trace
  whole-settled s b h = ap (settle b) (guard-true _ _ _ _ (le→leb _ _ h)) ∙ settle-bind b (trace (pack set) s 0) _

  ends-whole : (s : List ℕ) {v : Value} → length s ≤ max_pack_bytes → Ends (trace (pack set) s 0) v (length s)
      → Ends (whole_trace set s) v (length s)
  unfolding whole_trace out
  ends-whole s {v} h e = ap out (guard-true _ _ _ _ (le→leb _ _ h)) ∙ (bind-out _ _ e).0 ∙ ap out (guard-true _ _ _ (end v (length s)) (eqb_refl (length s)))

  section-ends : (n : ℕ) (x : Section) (s : List ℕ) (p : ℕ) {v : Value} {q : ℕ} → Ends (section_trace set n x s p) v q
      → (length s ≤ max_pack_bytes) × (p ≤ length s) × Ends (trace (section set n x) s p) v q × (total (section_trace set n x s p) ≡ total (trace (section set n x) s p))
  unfolding section_trace out
  section-ends n x s p h =
      let a = Ends-guard _ _ _ _ h in
      let b = Ends-guard _ _ _ _ a.1 in
      (leb→le (length s) max_pack_bytes a.0, leb→le p (length s) b.0, b.1, a.2 ∙ b.2)

  pub section-alone : (n : ℕ) (x : Section) (s : List ℕ) (p : ℕ) → length s ≤ max_pack_bytes → p ≤ length s
      → section_trace set n x s p ≡ trace (section set n x) s p
  unfolding section_trace
  section-alone n x s p h i = guard-true _ _ _ _ (le→leb _ _ h) ∙ guard-true _ _ _ _ (le→leb _ _ i)

  ends-section : (n : ℕ) (x : Section) (s : List ℕ) (p : ℕ) {v : Value} {q : ℕ} → length s ≤ max_pack_bytes → p ≤ length s
      → Ends (trace (section set n x) s p) v q → Ends (section_trace set n x s p) v q
  ends-section n x s p h i e = ap out (section-alone n x s p h i) ∙ e

  pub whole-reads : (s : List ℕ) → Reads (pack set) (whole_trace set s) s 0
  whole-reads s = record { inner = λ {v} {q} h. let e = whole-ends s h in (e.1 ∙ ap (ended v) (sym e.2), e.3) }

  pub section-reads : (n : ℕ) (x : Section) (s : List ℕ) (p : ℕ)
      → Reads (section set n x) (section_trace set n x s p) s p
  section-reads n x s p = record { inner = λ h. let e = section-ends n x s p h in (e.2, e.3) }

  -- The texts of what was read stand in the file.
  pub whole-held : (s : List ℕ) {v : Value} {q : ℕ} → Ends (whole_trace set s) v q → Held v s
  whole-held s h = trace-held (pack set) s 0 ((whole-reads s).inner h).0

  -- Layout, both directions: the charge list ends with the pack exactly where the file is the layout of a valid value.
  pub whole-layout : (s : List ℕ) (v : Value) (q : ℕ) → Bytes s
      → Ends (whole_trace set s) v q ↔ (length s ≤ max_pack_bytes) × Valid (pack set) v 0 × (s ≡ bytes (pack set) v) × (q ≡ length s)
  whole-layout s v q b = (to, from)
    where
      to : Ends (whole_trace set s) v q
          → (length s ≤ max_pack_bytes) × Valid (pack set) v 0 × (s ≡ bytes (pack set) v) × (q ≡ length s)
      to h =
          let e = whole-ends s h in
          let r = (layout-iff (pack set) (closed-pack set) s 0 v (length s) b (omega arith)).0 e.1 in
          (e.0, r.0, sym (take_all (length (bytes (pack set) v)) s (omega (arith, r.2))) ∙ r.1, e.2)

      from : (length s ≤ max_pack_bytes) × Valid (pack set) v 0 × (s ≡ bytes (pack set) v) × (q ≡ length s)
          → Ends (whole_trace set s) v q
      from h =
          let e = ap length h.2 in
          let r = (layout-iff (pack set) (closed-pack set) s 0 v (length s) b (omega arith)).1 (h.1, ap (λ u. part u 0 (length (bytes (pack set) v))) h.2 ∙ take-length _, omega arith) in
          ends-whole s h.0 r ∙ ap (ended v) (sym h.3)

  -- The charges of every file, taken or refused, sum up to less than 2 ^ 64.
  pub whole-bound : Licensed set → (s : List ℕ) → Bytes s → total (whole_trace set s) < 2 ^ 64
  unfolding whole_trace
  whole-bound licensed s b =
      le-lt (guard-under (leb (length s) max_pack_bytes) (too_large (length s)) 0 _ (2 ^ 64 - 1) (λ d.
      let h = leb→le (length s) max_pack_bytes d in
      let i = pack-bound set licensed s b h in
      omega (arith, i, judged (trace (pack set) s 0) (λ v q. eqb q (length s)) (λ v q. wrong Refusals.trailing_bytes (length s - q)))))
    where
      le-lt : {n : ℕ} → n ≤ 2 ^ 64 - 1 → n < 2 ^ 64
      le-lt h = omega arith

  -- The bytes that a section call takes lie in the pack.
  pub section-within : (count : ℕ) (x : Section) (s : List ℕ) (p b : ℕ) (tape : List ℕ) {w n c l : ℕ}
      → (section_outcome set count x s p b tape).answer ≡ Taken w n c l → p + n ≤ length s
  unfolding section_outcome
  section-within count x s p b tape h =
      let k = only-when (section set count x) p b tape (section_trace set count x s p) h in
      let e = section-ends count x s p k.ends in
      let i = trace-within (section set count x) s p e.2 in
      omega (arith, k.bytes, i.0, i.1 e.1)

  -- The section is read from p to q exactly where the layout of a valid value stands there.
  pub section-layout : (count : ℕ) (x : Section) (s : List ℕ) (p : ℕ) (v : Value) (q : ℕ) → Bytes s
      → Ends (section_trace set count x s p) v q ↔ (length s ≤ max_pack_bytes) × (p ≤ length s) × Valid (section set count x) v p × At s p (bytes (section set count x) v) × (q ≡ p + length (bytes (section set count x) v))
  section-layout count x s p v q b = (
    λ h. let e = section-ends count x s p h in let r = (layout-iff (section set count x) (closed-section set count x) s p v q b e.1).0 e.2 in (e.0, e.1, r.0, r.1, r.2),
    λ h. ends-section count x s p h.0 h.1 ((layout-iff (section set count x) (closed-section set count x) s p v q b h.1).1 (h.2, h.3, h.4)),
  )

  -- Every section's charges fit a budget of 64 bits.
  pub section-fits : Licensed set → (count : ℕ) (x : Section) (s : List ℕ) (p : ℕ) {v : Value} {q : ℕ} → Bytes s
      → Ends (section_trace set count x s p) v q → total (section_trace set count x s p) < 2 ^ 64
  section-fits licensed count x s p b h = let e = section-ends count x s p h in omega (arith, e.3, section-bound set licensed count x s p b e.0 e.1)

  -- ---- places: they never fall, and stay within the pack

  pub whole-places : (s : List ℕ) → Rising 0 (length s) (whole_trace set s)
  unfolding whole_trace
  whole-places s =
      rising-guard 0 (length s) (leb (length s) max_pack_bytes) (too_large (length s)) 0 _ (omega arith) (omega arith) (λ _.
      rising-bind 0 (length s) (trace (pack set) s 0) _ (trace-rising (pack set) s 0 (omega arith)) (λ v q _ j.
      rising-guard q (length s) (eqb q (length s)) _ q (end v q) (omega arith) j (λ _. rising-end q (length s) v q (omega arith) j)))

  pub section-places : (count : ℕ) (x : Section) (s : List ℕ) (p : ℕ) → p ≤ length s
      → Rising p (length s) (section_trace set count x s p)
  unfolding section_trace
  section-places count x s p h =
      rising-guard p (length s) (leb (length s) max_pack_bytes) (too_large (length s)) p _ (omega arith) h (λ _.
      rising-guard p (length s) (leb p (length s)) _ p _ (omega arith) h (λ _. trace-rising (section set count x) s p h))
