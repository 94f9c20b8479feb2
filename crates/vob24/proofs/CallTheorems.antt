-- What a call answers, by how its charge list ends and by what budget and tape reach: every case, and only these.
use Rattle.std.specs.Prelude.{ℕ, ◌+◌, ◌-◌, ◌≤◌, ◌<◌, ◌≡◌, List, [], ◌++◌, Bool, not, take, leb}
use Rattle.std.proofs.Math.Path.{refl}
use Rattle.std.proofs.Common.{ap, sym, ◌∙◌, subst, arith, leb→le, le→leb}
use Rattle.std.proofs.Math.Bool.{true, false}
use Rattle.std.proofs.Math.ListN.{length, drop}
use Rattle.std.proofs.Math.Seq.{take-append_seam}
use Rattle.std.proofs.Math.Dec.{T, nleb→lt}
use Rattle.format.specs.Trace.{Wrong, Trace, pick, amounts, sum, total, stopped, out, Ends, Settled, refused, taken, left, settle, covered}
use Rattle.format.specs.Format.{Value, Format}
use Rattle.format.specs.Record.{words, decode, Held}
use Rattle.format.specs.SettleTheorems.{covered-longest, settle-broke, settle-left, settle-taken, covered-lt, broke-at, settle-stopped}
use Rattle.format.proofs.TraceTheorems.{slim}
use Rattle.format.proofs.ChargeSums.{trace-charges}
use Rattle.format.proofs.RecordTheorems.{trace-held, record-decode}
use Rattle.vob24.specs.PackCost.{Costs}
use Rattle.vob24.specs.Calls.{Taken, Refused, Outcome, no_room_for, written, closing}
use Rattle.vob24.specs.CallTheorems.{left_of, Account, IsTaken, IsBroke, Reads}

module _ (f : Format) (a b : ℕ) (tape : List ℕ) where
  written-room : (ws : List ℕ) (p l : ℕ) → length ws ≤ length tape
      → written a b tape ws p l ≡ record { answer = Taken (length ws) (p - a) (b - l) l; tape = ws ++ drop (length ws) tape }
  unfolding pick
  written-room ws p l h = go (leb (length ws) (length tape)) (le→leb _ _ h)
    where
      go : (d : Bool) → T d
          → pick {A = Outcome} d (record { answer = Taken (length ws) (p - a) (b - l) l; tape = ws ++ drop (length ws) tape }) (record { answer = Refused (no_room_for (length ws) (length tape)) p l; tape = tape }) ≡ record { answer = Taken (length ws) (p - a) (b - l) l; tape = ws ++ drop (length ws) tape }
      go true x = refl
      go false x = elim x [ ]

  written-short : (ws : List ℕ) (p l : ℕ) → length tape < length ws
      → written a b tape ws p l ≡ record { answer = Refused (no_room_for (length ws) (length tape)) p l; tape = tape }
  unfolding pick
  written-short ws p l h = go (leb (length ws) (length tape)) (leb→le _ _)
    where
      go : (d : Bool) → (T d → length ws ≤ length tape)
          → pick {A = Outcome} d (record { answer = Taken (length ws) (p - a) (b - l) l; tape = ws ++ drop (length ws) tape }) (record { answer = Refused (no_room_for (length ws) (length tape)) p l; tape = tape }) ≡ record { answer = Refused (no_room_for (length ws) (length tape)) p l; tape = tape }
      go true x = let y = x tt in absurd (omega arith)
      go false x = refl

  written-left : (ws : List ℕ) (p l : ℕ) → left_of (written a b tape ws p l).answer ≡ l
  unfolding pick
  written-left ws p l = go (leb (length ws) (length tape))
    where
      go : (d : Bool)
          → left_of (pick {A = Outcome} d (record { answer = Taken (length ws) (p - a) (b - l) l; tape = ws ++ drop (length ws) tape }) (record { answer = Refused (no_room_for (length ws) (length tape)) p l; tape = tape })).answer ≡ l
      go true = refl
      go false = refl

  closing-left : (r : Settled Value) → left_of (closing f a b tape r).answer ≡ left r
  unfolding left
  closing-left (refused w p l) = refl
  closing-left (taken v p l) = written-left (words f v) p l

  module _ (t : Trace Value) where
    pub account : Account (amounts t) b (left_of (closing f a b tape (settle b t)).answer)
    account =
        record {
          paid = covered b (amounts t);
          longest = covered-longest b (amounts t);
          balance = ap (λ l. sum (take (covered b (amounts t)) (amounts t)) + l) (closing-left (settle b t)) ∙ settle-left b t;
        }

    -- budget and tape reach
    pub taken-when : {v : Value} {q : ℕ} → Ends t v q → total t ≤ b → length (words f v) ≤ length tape
        → closing f a b tape (settle b t) ≡ record { answer = Taken (length (words f v)) (q - a) (total t) (b - total t); tape = words f v ++ drop (length (words f v)) tape }
    taken-when {v} {q} e h k =
        let s : settle b t ≡ taken v q (b - total t) = (settle-taken b t v q (b - total t)).1 (e, h, refl) in
        let x : b - (b - total t) ≡ total t = omega arith in
        ap (closing f a b tape) s ∙ written-room (words f v) q (b - total t) k ∙ rw x

    -- the tape is too short
    pub short-tape : {v : Value} {q : ℕ} → Ends t v q → total t ≤ b → length tape < length (words f v)
        → closing f a b tape (settle b t) ≡ record { answer = Refused (no_room_for (length (words f v)) (length tape)) q (b - total t); tape = tape }
    short-tape {v} {q} e h k = ap (closing f a b tape) ((settle-taken b t v q (b - total t)).1 (e, h, refl)) ∙ written-short (words f v) q (b - total t) k

    -- a question is answered no, and the charges before it are paid
    pub stopped-at : {w : Wrong} {q : ℕ} → out t ≡ stopped w q → total t ≤ b
        → closing f a b tape (settle b t) ≡ record { answer = Refused w q (b - total t); tape = tape }
    stopped-at e h = ap (closing f a b tape) (settle-stopped b t e h)

    -- the budget does not reach
    pub short-budget : b < total t
        → IsBroke t b (closing f a b tape (settle b t)).answer × ((closing f a b tape (settle b t)).tape ≡ tape)
    short-budget h =
        let i = covered b (amounts t) in
        let r = broke-at t i (b - sum (take i (amounts t))) (covered-lt b (amounts t) h) in
        let e = ap (closing f a b tape) (settle-broke b t h ∙ r.is) in (
          record {
            number = i;
            context = r.context;
            amount = r.amount;
            place = r.place;
            there = r.there;
            longest = covered-longest b (amounts t);
            is = ap (λ o. o.answer) e;
          },
          ap (λ o. o.tape) e,
        )

    -- taken only so
    pub only-when : {w n c l : ℕ} → (closing f a b tape (settle b t)).answer ≡ Taken w n c l
        → IsTaken f t a b tape w n c l
    only-when {w} {n} {c} {l} e = go (settle b t) refl e
      where
        done : (v : Value) (q m : ℕ) → settle b t ≡ taken v q m
            → (closing f a b tape (settle b t)).answer ≡ Taken w n c l → length (words f v) ≤ length tape
            → IsTaken f t a b tape w n c l
        done v q m i e k =
            let r = (settle-taken b t v q m).0 i in
            let x = taken-when r.0 r.1 k in
            let y : Taken (length (words f v)) (q - a) (total t) (b - total t) ≡ Taken w n c l = sym (ap (λ o. o.answer) x) ∙ e in
            let z : length (words f v) ≡ w = cc in
            record { value = v; place = q; ends = r.0; reaches = r.1; counts = cc; room = omega arith; bytes = cc; charged = cc; leaves = cc; writes = ap (λ o. o.tape) x ∙ rw z }

        by : (v : Value) (q m : ℕ) → settle b t ≡ taken v q m → (d : Bool) → (T d → length (words f v) ≤ length tape)
            → (T (not d) → length tape < length (words f v)) → (closing f a b tape (settle b t)).answer ≡ Taken w n c l
            → IsTaken f t a b tape w n c l
        by v q m i true x y e = done v q m i e (x tt)
        by v q m i false x y e =
            let r = (settle-taken b t v q m).0 i in
            let s = short-tape r.0 r.1 (y tt) in
            let z : Refused (no_room_for (length (words f v)) (length tape)) q (b - total t) ≡ Taken w n c l = sym (ap (λ o. o.answer) s) ∙ e in
            let no : ◌≡◌ {A = ℕ} 0 1 = cc in
            absurd (omega arith)

        go : (r : Settled Value) → settle b t ≡ r → (closing f a b tape (settle b t)).answer ≡ Taken w n c l
            → IsTaken f t a b tape w n c l
        go (refused x p m) i e = let z : Refused x p m ≡ Taken w n c l = sym (ap (λ r. (closing f a b tape r).answer) i) ∙ e in let no : ◌≡◌ {A = ℕ} 0 1 = cc in absurd (omega arith)
        go (taken v q m) i e = by v q m i (leb (length (words f v)) (length tape)) (leb→le _ _) (nleb→lt _ _) e

-- The counted words of the tape are the record of the value.
pub taken-record : {f : Format} {t : Trace Value} {a b : ℕ} {tape : List ℕ} {w n c l : ℕ} (k : IsTaken f t a b tape w n c l)
    → take w (closing f a b tape (settle b t)).tape ≡ words f k.value
taken-record {f} {t} {a} {b} {tape} {w} k = ap (take w) k.writes ∙ subst (λ i. take i (words f k.value ++ drop w tape) ≡ words f k.value) (sym k.counts) (take-append_seam (words f k.value) _)

module _ {f : Format} {t : Trace Value} {s : List ℕ} {a : ℕ} (reads : Reads f t s a) {b : ℕ} {tape : List ℕ} {w n c l : ℕ} (k : IsTaken f t a b tape w n c l) where
  -- the record decodes to what was read, wherever its texts stand
  decoded : (s' : List ℕ) → Held k.value s'
      → decode f (take w (closing f a b tape (settle b t)).tape) s' ≡ (k.value, [])
  decoded s' h = ap (λ ws. decode f ws s') (taken-record k) ∙ record-decode f s s' a (reads.inner k.ends).0 h

  pub call-texts : Held k.value s
  call-texts = trace-held f s a (reads.inner k.ends).0

  pub call-record : (decode f (take w (closing f a b tape (settle b t)).tape) s ≡ (k.value, [])) × (length (take w (closing f a b tape (settle b t)).tape) ≡ w) × (w ≤ n)
  call-record = (decoded s call-texts, ap length (taken-record k) ∙ sym k.counts, omega (arith, k.counts, k.bytes, (slim f).most s a (reads.inner k.ends).0))

  pub call-cost : {cost : Value → ℕ} → Costs f cost → (s' : List ℕ) → Held k.value s'
      → c ≡ cost (decode f (take w (closing f a b tape (settle b t)).tape) s').0
  call-cost {cost} is s' h =
      let e = reads.inner k.ends in
      k.charged ∙ e.1 ∙ trace-charges f s a e.0 ∙ is.is k.value ∙ ap (λ x. cost x.0) (sym (decoded s' h))
