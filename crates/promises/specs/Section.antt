-- The demands, of a section call: what a caller knows of the answer q and of the tape t' that `read_section(pack,
-- section, place, budget, tape)` leaves. s is the pack, x the section, m the number of functions that bounds the inline
-- sources, a the place, b the budget, t the tape at entry; set the sizes and limits, which for `read_section` are
-- `settings`.
use Rattle.std.specs.Prelude.{ℕ, ◌+◌, ◌-◌, ◌^◌, ◌≤◌, ◌<◌, ◌≡◌, refl, List, [], ◌++◌, Ok, ◌↔◌, length, take, drop}
use Rattle.std.proofs.Common.{ap, sym, ◌∙◌, arith}
use Rattle.format.specs.Trace.{Wrong, Trace, amounts, total, stopped, out, Ends}
use Rattle.format.specs.Format.{Value}
use Rattle.format.specs.Reading.{little, part}
use Rattle.format.specs.Record.{words, decode, Held}
use Rattle.format.specs.Layout.{Bytes, Valid, bytes}
use Rattle.format.specs.LayoutTheorems.{At}
use Rattle.vob24.specs.Refusals
use Rattle.vob24.specs.Settings.{Settings, ExternDef, Licensed, size_of, max_pack_bytes}
use Rattle.vob24.specs.Grammar.{Section, externs, section}
use Rattle.vob24.specs.Cost.{section_cost, section_record_cost}
use Rattle.vob24.proofs.PackCost.{section-costs}
use Rattle.vob24.specs.Calls as vob
use Rattle.vob24.specs.Calls.{Taken, Refused, no_room_for, section_trace}
use Rattle.vob24.specs.CallTheorems.{left_of, Account, IsBroke}
use Rattle.vob24_theorems.specs.Theorems as spec
use Rattle.vob24_theorems.specs.RefusalNumbers.{Answered, section-numbered, section-listed}
use Rattle.vob24_theorems.specs.HostCalls.{Claims, some-claim, base_section, section-claims, section-as-before}
use Rattle.calls.specs.Contract.{Answer, answer_of, SectionCall}
use Rattle.promises.specs.Common as common
use Rattle.promises.specs.Common.{Kept, StaysWithin, AnswersTaken, Call}

-- "A section call's list is that of its own questions, from its given place to the section's end."
abbrev pub charges : Settings → ℕ → Section → List ℕ → ℕ → Trace Value
charges set m x s a = section_trace set m x s a

-- From the place a on stands the layout of this value, one that the grammar admits.
abbrev pub LaysOut : Settings → ℕ → Section → List ℕ → ℕ → Value → Type 0
LaysOut set m x s a v = (length s ≤ max_pack_bytes) × (a ≤ length s) × Valid (section set m x) v a × At s a (bytes (section set m x) v)

called : {set : Settings} {m : ℕ} {x : Section} {s : List ℕ} {a b : ℕ} {t : List ℕ} {q : Answer} {t' : List ℕ}
    → SectionCall set m x s a b t q t' → Call (section set m x) (charges set m x s a) a b t (answer_of q) t'
unfolding vob.section_outcome
called call = record { is = call.is }

module _ {set : Settings} {m : ℕ} {x : Section} {s : List ℕ} {a b : ℕ} {t : List ℕ} {q : Answer} {t' : List ℕ} (call : SectionCall set m x s a b t q t') where
  -- ---- demand 1

  -- "taken or refused with one number of document 01": 1 to 27.
  pub one_answer : Answered (answer_of q)
  one_answer = rw (ap (λ o. o.answer) call.is) at (section-numbered set m x s a b t)

  -- "A refusal changes no lent memory, an acceptance only the tape's counted words."
  pub memory : Kept (answer_of q) t t'
  memory = common.kept (called call)

  -- A place in the pack is given: the place shown, or the bytes taken, lie between it and the pack's end.
  pub places : a ≤ length s → StaysWithin a (length s) (answer_of q)
  places h = common.within (called call) (length s) (spec.section-places set m x s a h)

  -- ---- demand 2

  -- "Layout ..: given budget and tape enough, what they admit is taken, nothing else." `Bytes s` holds of any caller's
  -- slice of bytes.
  pub layout : Bytes s
      → AnswersTaken (answer_of q) ↔ ((v : Value) × LaysOut set m x s a v × (section_cost set x v ≤ b) × (length (words (section set m x) v) ≤ length t))
  layout bs =
      common.taken-where (called call) (spec.section-reads set m x s a) (section-costs set m x) (LaysOut set m x s a)
      (λ v p h. let r = (spec.section-layout set m x s a v p bs).0 h in (r.0, r.1, r.2, r.3))
      (λ v h. let e = a + length (bytes (section set m x) v) in (e, (spec.section-layout set m x s a v e bs).1 (h.0, h.1, h.2, h.3, refl)))

  -- "It writes its own section's words from the tape's first word on": the counted words are the words of the value
  -- that stands at the place, and give it back, with no word left over. "A section counts its bytes from its given
  -- place."
  pub record-holds : {w n c l : ℕ} → answer_of q ≡ Taken w n c l → Bytes s
      → (v : Value) × LaysOut set m x s a v × (take w t' ≡ words (section set m x) v) × (decode (section set m x) (take w t') s ≡ (v, []))
      × (length (take w t') ≡ w) × (w ≤ n) × (n ≡ length (bytes (section set m x) v))
  record-holds e bs =
      let k = common.only (called call) e in
      let r = (spec.section-layout set m x s a k.value k.place bs).0 k.ends in
      let d = common.decoded (called call) (spec.section-reads set m x s a) (section-costs set m x) e in
      (k.value, (r.0, r.1, r.2, r.3), common.recorded (called call) e, d.0, d.1, d.2, omega (arith, k.bytes, r.4))

  -- ---- demand 3

  -- "The sum charged plus the budget left is the starting budget, for packs taken and refused. The sum is that of the
  -- longest opening part of the charge list that the starting budget covers." "Its given budget is the starting one."
  pub account : Account (amounts (charges set m x s a)) b (left_of (answer_of q))
  account = common.account (called call)

  -- "In a taken answer charged is the sum of the whole list."
  pub charged : {w n c l : ℕ} → answer_of q ≡ Taken w n c l → (c ≡ total (charges set m x s a)) × (c + l ≡ b)
  charged = common.charged (called call)

  -- "The sum equals the cost that document 01 works out from the finished record and its texts alone."
  pub charged-cost : {w n c l : ℕ} → answer_of q ≡ Taken w n c l
      → (c ≡ section_record_cost set m x (take w t') s)
      × ((s' : List ℕ) → Held (decode (section set m x) (take w t') s).0 s' → c ≡ section_record_cost set m x (take w t') s')
  charged-cost e =
      let cost = common.charged-cost (called call) (spec.section-reads set m x s a) (section-costs set m x) e in
      (cost s (common.texts (called call) (spec.section-reads set m x s a) (section-costs set m x) e), cost)

  -- "Read again under any starting budget, with tape enough and nothing else changed, [it] is taken with the same
  -- record, bytes taken and sum exactly when the budget reaches this cost; otherwise it is refused with
  -- AllocationBudgetExceeded at the first charge of the list that can't be paid."
  pub read_again : {w n c l : ℕ} → answer_of q ≡ Taken w n c l
      → {b₂ : ℕ} {t₂ : List ℕ} {q₂ : Answer} {t₂' : List ℕ} → SectionCall set m x s a b₂ t₂ q₂ t₂' → w ≤ length t₂
      → (((answer_of q₂ ≡ Taken w n c (b₂ - c)) × (take w t₂' ≡ take w t')) ↔ (section_record_cost set m x (take w t') s ≤ b₂))
      × (b₂ < section_record_cost set m x (take w t') s → IsBroke (charges set m x s a) b₂ (answer_of q₂) × (t₂' ≡ t₂))
  read_again e call₂ room = rw (← (charged-cost e).0) (common.again (called call) e (called call₂) room)

  -- The four answers, by the charge list. It ends with the section, and budget and tape reach: taken.
  pub taken-where : {v : Value} {p : ℕ} → Ends (charges set m x s a) v p → total (charges set m x s a) ≤ b
      → length (words (section set m x) v) ≤ length t
      → (answer_of q ≡ Taken (length (words (section set m x) v)) (p - a) (total (charges set m x s a)) (b - total (charges set m x s a)))
      × (t' ≡ words (section set m x) v ++ drop (length (words (section set m x) v)) t)
  taken-where = common.taken_at (called call)

  -- The tape does not: "26 counts those" words; and 26 only there.
  pub no_room : {v : Value} {p : ℕ} → Ends (charges set m x s a) v p → total (charges set m x s a) ≤ b
      → length t < length (words (section set m x) v)
      → (answer_of q ≡ Refused (no_room_for (length (words (section set m x) v)) (length t)) p (b - total (charges set m x s a))) × (t' ≡ t)
  no_room = common.short-at (called call)

  pub no-room-only : {y : Wrong} {p l : ℕ} → answer_of q ≡ Refused y p l → y.number ≡ Refusals.no_room
      → (v : Value) × Ends (charges set m x s a) v p × (total (charges set m x s a) ≤ b) × (length t < length (words (section set m x) v))
  no-room-only = common.short-only (called call) (λ y i j h. section-listed set m x s a b h)

  -- It ends where a question is answered no, and the budget covers the charges before it: that refusal.
  pub answered-no : {y : Wrong} {p : ℕ} → out (charges set m x s a) ≡ stopped y p → total (charges set m x s a) ≤ b
      → (answer_of q ≡ Refused y p (b - total (charges set m x s a))) × (t' ≡ t)
  answered-no = common.stopped-at (called call)

  -- The budget does not cover the list: 5 at the first charge that can't be paid.
  pub broke-where : b < total (charges set m x s a) → IsBroke (charges set m x s a) b (answer_of q) × (t' ≡ t)
  broke-where = common.broke-at (called call)

-- Request 1, of the call on the externs.
module _ {set : Settings} {m : ℕ} {s : List ℕ} {a b : ℕ} {t : List ℕ} {q : Answer} {t' : List ℕ} (call : SectionCall set m externs s a b t q t') where
  -- "The bytes-left question now comes first, the budget second, HostCalls third": n externs are refused with 2, 5 or
  -- 25, by these. What the base answered is `HostCalls.section-claims`.
  pub host-calls : length s ≤ max_pack_bytes → a + 4 ≤ length s → {n : ℕ} → little (part s a 4) ≡ n → 1 ≤ n
      → (y : Wrong) × (l : ℕ) × Claims (size_of set ExternDef) n (a + 4) (length s) b y l × (answer_of q ≡ Refused y (a + 4) l) × (t' ≡ t)
  host-calls h i {n} e j =
      let k = some-claim (size_of set ExternDef) n (a + 4) (length s) b in
      let o = sym call.is ∙ (section-claims set m s a b t h i e j k.2).0 in
      (k.0, k.1, k.2, ap (λ o. o.answer) o, ap (λ o. o.tape) o)

  -- "All other answers are as before": the base's.
  pub as_before : (length s ≤ max_pack_bytes → a + 4 ≤ length s → little (part s a 4) ≡ 0)
      → base_section set s a b t ≡ record { answer = answer_of q; tape = t' }
  as_before h = sym (section-as-before set m s a b t h) ∙ call.is

-- "Exactly the files whose charge list ends with the pack, not at a question, are taken under some starting budget with
-- tape enough": with the section, from this place on, under one of 64 bits.
pub some-budget : (set : Settings) → Licensed set → (m : ℕ) (x : Section) (s : List ℕ) (a : ℕ) → Bytes s
    → ((b : ℕ) × (t : List ℕ) × (q : Answer) × (t' : List ℕ) × (b < 2 ^ 64) × SectionCall set m x s a b t q t' × AnswersTaken (answer_of q))
    ↔ ((v : Value) × (p : ℕ) × Ends (charges set m x s a) v p)
unfolding vob.section_outcome
some-budget set licensed m x s a bs = (
  λ h. let k = common.only (called h.5) h.6.4 in (k.value, k.place, k.ends),
  λ h.
      let r = (common.some-when (section set m x) a (charges set m x s a) (2 ^ 64) (λ _ _ h. spec.section-fits set licensed m x s a bs h)).1 h in
      let o = vob.section_outcome set m x s a r.0 r.1 in
      (r.0, r.1, Ok (record { words = r.2; bytes = r.3; charged = r.4; left = r.5 }), o.tape, r.6, record { is = ap (λ i. record { answer = i; tape = o.tape }) r.7 }, (_, _, _, _, refl)),
)
