-- The laws of the public calls: a first pass with no tape, the questions around it, a second pass.
use Rattle.std.proofs.Common.{ℕ, ◌+◌, ◌-◌, ◌≤◌, ◌<◌, ◌≡◌, refl, ap, sym, ◌∙◌, List, [], ◌∷◌, ◌++◌, Bool, true, false, not, arith, zero-add, length, drop, T, leb, eqb, leb→le, le-leb, eq-eqb, ne_eqb, Ok, Err}
use Rattle.std.specs.Result.{IsErrAnd}
use lib.Dec.{nleb→lt}
use borrow.Author.Tests.{lt-leb}
use lib.Seq.{sets-eq, paste, take-append_seam}
use Rattle.format.specs.Trace.{wrong, Trace, guard, refused, taken, settle, pick}
use Rattle.format.specs.Format.{Value, Format}
use Rattle.format.specs.Reading.{trace}
use Rattle.format.specs.Record.{words}
use Rattle.format.specs.SettleTheorems.{settle-taken, then_s}
use Rattle.format.proofs.TraceTheorems.{trace-within}
use Rattle.vob24.specs.Refusals
use Rattle.vob24.specs.Settings.{Settings, max_pack_bytes}
use Rattle.vob24.specs.Grammar.{Section, section, pack}
use Rattle.vob24.specs.Calls as vob
use Rattle.vob24_theorems.specs.Theorems.{whole-settled, section-alone}
use Rattle.reader.specs.Contract.{refusal, told, Takes, Reads, takes, refuses, skips, Reader, Step}
use Rattle.reader.specs.Accepted.{Accepted}
use Rattle.reader.proofs.Accepting.{taken-accepted}
use Rattle.reader.proofs.Errors.{handed}
use Rattle.reader.specs.declared.kinds.Kind.TheVariants.{InputTooLarge, UnexpectedEof, TrailingBytes, NoRoom}
use Rattle.reader.specs.declared.Cursor.{Cursor}
use Rattle.reader.specs.declared.Refusal.{Refusal}
use Rattle.calls.specs.Contract.{Answer, answer_of, from, opened, Opens, ended, closed, Ends, Closes, Since, ReadCall, SectionCall}
use Rattle.calls.specs.declared.Taken as call

-- ---- the three questions

module _ {s : List ℕ} {p b : ℕ} where
  pub opens-long : max_pack_bytes < length s → Opens s p b (Err (refusal InputTooLarge 0 (length s) max_pack_bytes (from p b)))
  unfolding opened pick
  opens-long h = record { is = rw (lt-leb _ _ h); ready = tt }

  pub opens-past : length s ≤ max_pack_bytes → length s < p
      → Opens s p b (Err (refusal UnexpectedEof 0 0 0 (from p b)))
  unfolding opened pick
  opens-past h i = record { is = rw (le-leb _ _ h, lt-leb _ _ i); ready = tt }

  pub opens_at : length s ≤ max_pack_bytes → p ≤ length s → Opens s p b (Ok (from p b))
  unfolding opened pick
  opens_at h i = record { is = rw (le-leb _ _ h, le-leb _ _ i); ready = record { small = h; within = i; behind = omega arith } }

module _ {n : ℕ} {r : Step} where
  pub ends-refused : {x : Refusal} {q : Step} → r ≡ Err x → IsErrAnd q (λ y. y ≡ x) → Ends n r q
  ends-refused {q = q} e i = record { is = handed q i ∙ rw e }

  pub ends_at : {c : Cursor} → r ≡ Ok c → c.place ≡ n → Ends n r (Ok c)
  unfolding pick
  ends_at {c} e h = record { is = rw (e, eq-eqb c.place n h) }

  pub ends-past : {c : Cursor} → r ≡ Ok c → (c.place ≡ n → ⊥)
      → Ends n r (Err (refusal TrailingBytes 0 (n - c.place) 0 c))
  unfolding pick
  ends-past {c} e h = record { is = rw (e, ne_eqb c.place n h) }

module _ {p b room : ℕ} {r : Step} where
  pub closes-refused : {x : Refusal} {q : Answer} → r ≡ Err x → IsErrAnd q (λ y. y ≡ x) → Closes p b room r q
  closes-refused {q = q} e i = record { is = handed q i ∙ rw e }

  pub closes-short : {c : Cursor} → r ≡ Ok c → room < c.at
      → Closes p b room r (Err (refusal NoRoom 0 c.at room c))
  unfolding pick
  closes-short e h = record { is = rw (e, lt-leb _ _ h) }

  pub closes-taken : {c : Cursor} → r ≡ Ok c → c.at ≤ room
      → Closes p b room r (Ok (record { words = c.at; bytes = c.place - p; charged = b - c.left; left = c.left }))
  unfolding pick
  closes-taken e h = record { is = rw (e, le-leb _ _ h) }

pub ruleset questions = (opens-long, opens-past, opens_at)

-- ---- the passes

-- What a first pass has come to: the budget settles the call's charge list so.
pub data Passed (f : Format) (t : Trace Value) (s : List ℕ) (p b : ℕ) (start : Step) : Step → Type 0 where
  passed : {v : Value} {c : Cursor} → start ≡ Ok (from p b) → settle b t ≡ taken v c.place c.left
      → settle b (trace f s p) ≡ taken v c.place c.left → c.at ≡ length (words f v)
      → Passed f t s p b start (Ok c)
  denied : {x : Refusal} → settle b t ≡ told x → Passed f t s p b start (Err x)

-- how a call opened
data Opened (s : List ℕ) (p b : ℕ) : Step → Type 0 where
  long : max_pack_bytes < length s → Opened s p b (Err (refusal InputTooLarge 0 (length s) max_pack_bytes (from p b)))
  past : length s ≤ max_pack_bytes → length s < p → Opened s p b (Err (refusal UnexpectedEof 0 0 0 (from p b)))
  at : length s ≤ max_pack_bytes → p ≤ length s → Opened s p b (Ok (from p b))

opened-as : (s : List ℕ) (p b : ℕ) → Opened s p b (opened s p b)
unfolding opened pick
opened-as s p b = go (leb (length s) max_pack_bytes) (leb→le _ _) (nleb→lt _ _) (leb p (length s)) (leb→le _ _) (nleb→lt _ _)
  where
    go : (d : Bool) → (T d → length s ≤ max_pack_bytes) → (T (not d) → max_pack_bytes < length s) → (e : Bool)
        → (T e → p ≤ length s) → (T (not e) → length s < p)
        → Opened s p b (pick d (pick e (Ok (from p b)) (Err (refusal UnexpectedEof 0 0 0 (from p b)))) (Err (refusal InputTooLarge 0 (length s) max_pack_bytes (from p b))))
    go true x y true z w = at (x tt) (z tt)
    go true x y false z w = past (x tt) (w tt)
    go false x y e z w = long (y tt)

module _ (set : Settings) (n : ℕ) (x : Section) (s : List ℕ) (p b : ℕ) where
  section-long : max_pack_bytes < length s
      → settle b (vob.section_trace set n x s p) ≡ refused (vob.too_large (length s)) p b
  unfolding vob.section_trace guard settle
  section-long h = rw (lt-leb _ _ h)

  section-past : length s ≤ max_pack_bytes → length s < p
      → settle b (vob.section_trace set n x s p) ≡ refused (wrong Refusals.unexpected_eof 0) p b
  unfolding vob.section_trace guard settle
  section-past h i = rw (le-leb _ _ h, lt-leb _ _ i)

  section-at : length s ≤ max_pack_bytes → p ≤ length s
      → settle b (vob.section_trace set n x s p) ≡ settle b (trace (section set n x) s p)
  section-at h i = ap (settle b) (section-alone set n x s p h i)

  section-cases : {r₀ r : Step} {t e : List ℕ} → Opened s p b r₀ → Reads (section set n x) s r₀ t r e
      → Passed (section set n x) (vob.section_trace set n x s p) s p b r₀ r
  section-cases (long h) skips = denied (section-long h)
  section-cases (past h i) skips = denied (section-past h i)
  section-cases (at h i) (takes k) = passed refl (section-at h i ∙ k.settles) k.settles (k.moves ∙ zero-add _)
  section-cases (at h i) (refuses k) = denied (section-at h i ∙ k.settles)

module _ (set : Settings) (s : List ℕ) (b : ℕ) where
  whole_long : max_pack_bytes < length s → settle b (vob.whole_trace set s) ≡ refused (vob.too_large (length s)) 0 b
  unfolding vob.whole_trace guard settle
  whole_long h = rw (lt-leb _ _ h)

  -- the whole pack, with the question after it
  judged : {t : List ℕ} {v : Value} {c : Cursor} {e : List ℕ} → length s ≤ max_pack_bytes
      → Takes (pack set) s (from 0 b) t v c e → (d : Bool) → eqb c.place (length s) ≡ d
      → Passed (pack set) (vob.whole_trace set s) s 0 b (Ok (from 0 b)) (pick d (Ok c) (Err (refusal TrailingBytes 0 (length s - c.place) 0 c)))
  unfolding pick then_s guard settle
  judged {v = v} {c = c} h k true i = passed {v = v} {c = c} refl (whole-settled set s b h ∙ rw (k.settles, i)) k.settles (k.moves ∙ zero-add _)
  judged {c = c} h k false i = denied {x = refusal TrailingBytes 0 (length s - c.place) 0 c} (whole-settled set s b h ∙ rw (k.settles, i))

  whole-cases : {r₀ r : Step} {t e : List ℕ} → Opened s 0 b r₀ → Reads (pack set) s r₀ t r e
      → Passed (pack set) (vob.whole_trace set s) s 0 b r₀ (ended (length s) r)
  unfolding then_s
  whole-cases (long h) skips = denied (whole_long h)
  whole-cases (past h i) skips = absurd (omega arith)
  whole-cases (at h i) (refuses {x = x} k) = denied {x = x} (whole-settled set s b h ∙ rw k.settles)
  whole-cases (at h i) (takes {c' = c} k) = judged h k (eqb c.place (length s)) refl

-- ---- what a call makes of them

module _ {f : Format} {t : Trace Value} {s : List ℕ} {p b : ℕ} {r₀ : Step} where
  passed-since : {r : Step} → Passed f t s p b r₀ r → Since p b r
  passed-since (passed {v = v} {c = c} _ _ i _) =
      let k = (settle-taken b (trace f s p) v c.place c.left).0 i in
      record { place = λ c' e. let x : c' ≡ c = cc in rw x (omega (arith, (trace-within f s p k.0).0)); left = λ c' e. let x : c' ≡ c = cc in rw x (omega (arith, k.2)) }
  passed-since (denied i) = record { place = λ c e. let no : ⊥ = cc in absurd no; left = λ c e. let no : ⊥ = cc in absurd no }

  -- what a first pass has taken is not refused in a second
  passed-accepted : {g : Bool} {r : Step} {c : Cursor} → Passed f t s p b r₀ r → r ≡ Ok c → Accepted g f s r₀
  passed-accepted (passed o _ i _) e = taken-accepted o i
  passed-accepted (denied i) e = let no : ⊥ = cc in absurd no

-- the question of room, answered either way
data Closed (p b room : ℕ) (c : Cursor) : Answer → Type 0 where
  fits : c.at ≤ room → Closed p b room c (Ok (record { words = c.at; bytes = c.place - p; charged = b - c.left; left = c.left }))
  short : room < c.at → Closed p b room c (Err (refusal NoRoom 0 c.at room c))

closed-as : (p b room : ℕ) (c : Cursor) → Closed p b room c (closed p b room (Ok c))
unfolding pick
closed-as p b room c = go (leb c.at room) (leb→le _ _) (nleb→lt _ _)
  where
    go : (d : Bool) → (T d → c.at ≤ room) → (T (not d) → room < c.at)
        → Closed p b room c (pick d (Ok (record { words = c.at; bytes = c.place - p; charged = b - c.left; left = c.left })) (Err (refusal NoRoom 0 c.at room c)))
    go true x y = fits (x tt)
    go false x y = short (y tt)

-- a pass over a tape that has the room writes the record
written : {f : Format} {s : List ℕ} {p b : ℕ} {tape : List ℕ} {v : Value} {q l : ℕ} {r : Step} {t₂ : List ℕ}
    → settle b (trace f s p) ≡ taken v q l → length (words f v) ≤ length tape → Reads f s (Ok (from p b)) tape r t₂
    → t₂ ≡ words f v ++ drop (length (words f v)) tape
written {f} {tape = tape} {v = v} i h (takes {v = u} k) =
    let e : v ≡ u = cc (i, k.settles) in
    let m : 0 + length (words f v) ≤ length tape = omega arith in
    k.writes ∙ rw (← e) (sets-eq (words f v) tape 0 m ∙ rw zero-add)
written i h (refuses k) = let z : ◌≡◌ {A = ℕ} 0 1 = cc (i, k.settles) in absurd (omega arith)

-- What a call that takes w words leaves on the tape: they are the record's.
record Recorded (f : Format) (s : List ℕ) (p b : ℕ) (r₀ : Step) (tape : List ℕ) (w : ℕ) (t₂ : List ℕ) : Type 0 where
  is : (v : Value) (k o : ℕ) → r₀ ≡ Ok (from p b) → settle b (trace f s p) ≡ taken v k o
      → length (words f v) ≤ length tape → w ≡ length (words f v) → t₂ ≡ words f v ++ drop (length (words f v)) tape

module _ {f : Format} {s : List ℕ} {p b : ℕ} {r₀ r : Step} {tape t₂ : List ℕ} {w : ℕ} where
  -- two passes: the second writes the record
  twice : Reads f s r₀ tape r t₂ → Recorded f s p b r₀ tape w t₂
  twice z = record { is = λ v k o e i h j. written i h (rw e at z) }

  -- one pass, over a tape of its own that has the room: what it has written is copied
  once : {e e' : List ℕ} → w ≤ length e → Reads f s r₀ e r e' → t₂ ≡ paste tape 0 e' w → Recorded f s p b r₀ tape w t₂
  once {e} {e'} m z y =
      record {
        is =
            λ v k o x i g j.
            let n : length (words f v) ≤ length e = omega (arith, j) in
            let u : e' ≡ words f v ++ drop (length (words f v)) e = written i n (rw x at z) in
            y ∙ rw (u, j, take-append_seam, zero-add);
      }

closed-taken : (p b room : ℕ) (r : Step) {q : Answer} {w : call.Taken} → q ≡ closed p b room r → q ≡ Ok w
    → (c : Cursor) × (r ≡ Ok c) × (w.words ≡ c.at) × (c.at ≤ room)
closed-taken p b room (Err x) e j = let no : ⊥ = cc in absurd no
closed-taken p b room (Ok c) {w = w} e j = go (closed-as p b room c) (sym e ∙ j)
  where
    go : {a : Answer} → Closed p b room c a → a ≡ Ok w
        → (d : Cursor) × (◌≡◌ {A = Step} (Ok c) (Ok d)) × (w.words ≡ d.at) × (d.at ≤ room)
    go (fits h) j = (c, refl, cc, h)
    go (short h) j = let no : ⊥ = cc in absurd no

module _ (f : Format) (t : Trace Value) (p b : ℕ) (tape : List ℕ) where
  closing-denied : (x : Refusal) → settle b t ≡ told x
      → vob.closing f p b tape (settle b t) ≡ record { answer = answer_of (Err x); tape = tape }
  closing-denied x i = ap (vob.closing f p b tape) i

  closing-short : {v : Value} {c : Cursor} → settle b t ≡ taken v c.place c.left → c.at ≡ length (words f v)
      → length tape < c.at
      → vob.closing f p b tape (settle b t) ≡ record { answer = answer_of (Err (refusal NoRoom 0 c.at (length tape) c)); tape = tape }
  unfolding pick
  closing-short {v} {c} i m h = let h' : length tape < length (words f v) = omega arith in ap (vob.closing f p b tape) i ∙ rw (lt-leb _ _ h', m)

  closing-fits : {v : Value} {c : Cursor} → settle b t ≡ taken v c.place c.left → c.at ≡ length (words f v)
      → c.at ≤ length tape
      → vob.closing f p b tape (settle b t) ≡ record { answer = answer_of (Ok (record { words = c.at; bytes = c.place - p; charged = b - c.left; left = c.left })); tape = words f v ++ drop (length (words f v)) tape }
  unfolding pick
  closing-fits {v} {c} i m h = let h' : length (words f v) ≤ length tape = omega arith in ap (vob.closing f p b tape) i ∙ rw (le-leb _ _ h', m)

  -- refused: the tape is as it was
  short-so : {v : Value} {c : Cursor} {q : Answer} {x : Refusal} → settle b t ≡ taken v c.place c.left
      → c.at ≡ length (words f v) → Closed p b (length tape) c q → q ≡ Err x
      → vob.closing f p b tape (settle b t) ≡ record { answer = answer_of q; tape = tape }
  short-so i m (fits h) e = let z : ◌≡◌ {A = ℕ} 0 1 = cc in absurd (omega arith)
  short-so i m (short h) e = closing-short i m h

  refused-so : {s : List ℕ} {r₀ r : Step} {q : Answer} {x : Refusal} → Passed f t s p b r₀ r
      → q ≡ closed p b (length tape) r → q ≡ Err x
      → vob.closing f p b tape (settle b t) ≡ record { answer = answer_of q; tape = tape }
  refused-so (denied {x = y} i) e j = closing-denied y i ∙ rw e
  refused-so (passed {c = c} o i k m) e j = rw e (short-so i m (closed-as p b (length tape) c) (sym e ∙ j))

  fits-so : {v : Value} {c : Cursor} {q : Answer} {t₂ : List ℕ} {w : call.Taken}
      → settle b t ≡ taken v c.place c.left → c.at ≡ length (words f v) → Closed p b (length tape) c q
      → q ≡ Ok w
      → (length (words f v) ≤ length tape → w.words ≡ length (words f v) → t₂ ≡ words f v ++ drop (length (words f v)) tape)
      → vob.closing f p b tape (settle b t) ≡ record { answer = answer_of q; tape = t₂ }
  fits-so i j (short h) e z = let no : ⊥ = cc in absurd no
  fits-so i j (fits h) e z = closing-fits i j h ∙ rw (z (omega arith) (cc))

  taken-so : {s : List ℕ} {r₀ r : Step} {q : Answer} {t₂ : List ℕ} {w : call.Taken} → Passed f t s p b r₀ r
      → q ≡ closed p b (length tape) r → q ≡ Ok w → Recorded f s p b r₀ tape w.words t₂
      → vob.closing f p b tape (settle b t) ≡ record { answer = answer_of q; tape = t₂ }
  taken-so (denied i) e j z = let no : ⊥ = cc in absurd no
  taken-so (passed {c = c} o i k m) e j z = rw e (fits-so i m (closed-as p b (length tape) c) (sym e ∙ j) (z.is _ _ _ o k))

nil : (e : List ℕ) → length e ≡ 0 → e ≡ []
nil [] h = refl
nil (x ∷ e) h = absurd (omega arith)

-- ---- a section call

module _ (set : Settings) (n : ℕ) (x : Section) {s : List ℕ} {p b : ℕ} {r₀ r : Step} {t₀ e : List ℕ} (o : Opens s p b r₀) (k : Reader (section set n x) s r₀ t₀ r e) where
  section-passed : Passed (section set n x) (vob.section_trace set n x s p) s p b r₀ r
  section-passed = section-cases set n x s p b (rw o.is (opened-as s p b)) k.reads

  pub section-since : Since p b r
  section-since = passed-since section-passed

  module _ {t : List ℕ} {q : Answer} (z : length e ≡ 0) (m : Closes p b (length (e ++ t)) r q) where
    pub section-refused : {y : Refusal} → q ≡ Err y → SectionCall set n x s p b t (Err y) (e ++ t)
    unfolding vob.section_outcome
    section-refused j = let i = nil e z in rw (← j) (record { is = rw i (refused-so _ _ p b t section-passed (m.is ∙ rw i) j) })

    pub section-taken : {w : call.Taken} {r₂ : Step} {t₂ : List ℕ} → q ≡ Ok w
        → Reader (section set n x) s r₀ (e ++ t) r₂ t₂ → SectionCall set n x s p b t (Ok w) t₂
    unfolding vob.section_outcome
    section-taken j k₂ = let i = nil e z in rw (← j) (record { is = taken-so _ _ p b t section-passed (m.is ∙ rw i) j (twice (rw i at k₂.reads)) })

-- ---- the call on a whole pack

module _ (set : Settings) {s : List ℕ} {b : ℕ} {r₀ r : Step} {t₀ e : List ℕ} (o : Opens s 0 b r₀) (k : Reader (pack set) s r₀ t₀ r e) where
  pub read-passed : {r' : Step} → Ends (length s) r r' → Passed (pack set) (vob.whole_trace set s) s 0 b r₀ r'
  read-passed g = rw g.is (whole-cases set s b (rw o.is (opened-as s 0 b)) k.reads)

  whole-passed : Passed (pack set) (vob.whole_trace set s) s 0 b r₀ (ended (length s) r)
  whole-passed = read-passed record { is = refl }

  pub read-since : Since 0 b (ended (length s) r)
  read-since = passed-since whole-passed

  module _ {t : List ℕ} {q : Answer} (z : length e ≡ 0) (m : Closes 0 b (length (e ++ t)) (ended (length s) r) q) where
    pub read-refused : {y : Refusal} → q ≡ Err y → ReadCall set s b t (Err y) (e ++ t)
    unfolding vob.read_outcome
    read-refused j = let i = nil e z in rw (← j) (record { is = rw i (refused-so _ _ 0 b t whole-passed (m.is ∙ rw i) j) })

    pub read_taken : {w : call.Taken} {r₂ : Step} {t₂ : List ℕ} → q ≡ Ok w
        → Reader (pack set) s r₀ (e ++ t) r₂ t₂ → ReadCall set s b t (Ok w) t₂
    unfolding vob.read_outcome
    read_taken j k₂ = let i = nil e z in rw (← j) (record { is = taken-so _ _ 0 b t whole-passed (m.is ∙ rw i) j (twice (rw i at k₂.reads)) })

  module _ {room : ℕ} {q : Answer} {w : call.Taken} (m : Closes 0 b room (ended (length s) r) q) (j : q ≡ Ok w) where
    -- a call that takes a pack has the room
    pub read-room : w.words ≤ room
    read-room = let d = closed-taken 0 b room (ended (length s) r) m.is j in omega (arith, d.2, d.3)

  -- a small pack: read over a tape of its own
  module _ {t : List ℕ} {q : Answer} (m : Closes 0 b (length t) (ended (length s) r) q) where
    pub small-refused : {y : Refusal} → q ≡ Err y → ReadCall set s b t (Err y) t
    unfolding vob.read_outcome
    small-refused j = rw (← j) (record { is = refused-so _ _ 0 b t whole-passed m.is j })

    pub small-taken : {w : call.Taken} {t₂ : List ℕ} → w.words ≤ length t₀ → q ≡ Ok w → t₂ ≡ paste t 0 e w.words
        → ReadCall set s b t (Ok w) t₂
    unfolding vob.read_outcome
    small-taken {t₂ = t₂} h j y = let a : ReadCall set s b t q t₂ = record { is = taken-so _ _ 0 b t whole-passed m.is j (once h k.reads y) } in rw j at a

    -- and a second time, where its record is longer than that
    pub small-again : {w : call.Taken} {r₂ : Step} {t₂ : List ℕ} → q ≡ Ok w
        → Reader (pack set) s r₀ t r₂ t₂ → ReadCall set s b t (Ok w) t₂
    unfolding vob.read_outcome
    small-again {t₂ = t₂} j k₂ = let a : ReadCall set s b t q t₂ = record { is = taken-so _ _ 0 b t whole-passed m.is j (twice k₂.reads) } in rw j at a
