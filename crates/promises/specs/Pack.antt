-- The demands, of the call on a whole pack: what a caller knows of the answer q and of the tape t' that `read(pack,
-- budget, tape)` leaves. s is the pack, b the starting budget, t the tape at entry; set the sizes and limits, which for
-- `read` are `settings`.
use Rattle.std.specs.Prelude.{ℕ, ◌+◌, ◌-◌, ◌^◌, ◌≤◌, ◌<◌, ◌≡◌, refl, List, [], ◌++◌, Ok, ◌↔◌, length, take, drop}
use Rattle.std.proofs.Common.{ap, sym, ◌∙◌, arith}
use Rattle.format.specs.Trace.{Wrong, Trace, amounts, total, stopped, out, Ends}
use Rattle.format.specs.Format.{Value}
use Rattle.format.specs.Record.{words, decode, Held}
use Rattle.format.specs.Layout.{Bytes, Valid, bytes}
use Rattle.vob24.specs.Refusals
use Rattle.vob24.specs.Settings.{Settings, ExternDef, Licensed, size_of, max_pack_bytes}
use Rattle.vob24.specs.Grammar.{pack}
use Rattle.vob24.specs.Cost.{pack_cost, record_cost}
use Rattle.vob24.proofs.PackCost.{pack-costs}
use Rattle.vob24.specs.Calls as vob
use Rattle.vob24.specs.Calls.{Taken, Refused, no_room_for, whole_trace}
use Rattle.vob24.specs.CallTheorems.{left_of, Account, IsBroke}
use Rattle.vob24_theorems.specs.Theorems as spec
use Rattle.vob24_theorems.specs.RefusalNumbers.{Answered, read-numbered, whole-listed}
use Rattle.vob24_theorems.specs.HostCalls.{Claims, some-claim, Counts, base_read, read-claims, read-as-before}
use Rattle.calls.specs.Contract.{Answer, answer_of, ReadCall}
use Rattle.promises.specs.Common as common
use Rattle.promises.specs.Common.{Kept, StaysWithin, AnswersTaken, Call}

-- The file's charge list, and how it ends.
abbrev pub charges : Settings → List ℕ → Trace Value
charges set s = whole_trace set s

-- The file is the layout of this value, one that the grammar admits.
abbrev pub LaysOut : Settings → List ℕ → Value → Type 0
LaysOut set s v = (length s ≤ max_pack_bytes) × Valid (pack set) v 0 × (s ≡ bytes (pack set) v)

called : {set : Settings} {s : List ℕ} {b : ℕ} {t : List ℕ} {q : Answer} {t' : List ℕ}
    → ReadCall set s b t q t' → Call (pack set) (charges set s) 0 b t (answer_of q) t'
unfolding vob.read_outcome
called call = record { is = call.is }

module _ {set : Settings} {s : List ℕ} {b : ℕ} {t : List ℕ} {q : Answer} {t' : List ℕ} (call : ReadCall set s b t q t') where
  -- ---- demand 1

  -- "The file handed in, of any length and content, is taken or refused with one number of document 01": 1 to 27.
  pub one_answer : Answered (answer_of q)
  one_answer = rw (ap (λ o. o.answer) call.is) at (read-numbered set s b t)

  -- "A refusal changes no lent memory, an acceptance only the tape's counted words."
  pub memory : Kept (answer_of q) t t'
  memory = common.kept (called call)

  -- "Place is the offset in the pack after the last byte taken": it lies within the pack.
  pub places : StaysWithin 0 (length s) (answer_of q)
  places = common.within (called call) (length s) (spec.whole-places set s)

  -- ---- demand 2

  -- "Layout ..: given budget and tape enough, what they admit is taken, nothing else." Budget enough is the value's
  -- cost, tape enough the words of its record. `Bytes s`, each element below 256, holds of any caller's slice of bytes.
  pub layout : Bytes s
      → AnswersTaken (answer_of q) ↔ ((v : Value) × LaysOut set s v × (pack_cost set v ≤ b) × (length (words (pack set) v) ≤ length t))
  layout bs =
      common.taken-where (called call) (spec.whole-reads set s) (pack-costs set) (LaysOut set s)
      (λ v p h. let r = (spec.whole-layout set s v p bs).0 h in (r.0, r.1, r.2))
      (λ v h. (length s, (spec.whole-layout set s v (length s) bs).1 (h.0, h.1, h.2, refl)))

  -- "Where a pack is taken, its record holds the file's fields as document 01 lays them on the tape": the counted words
  -- are the words of the value that the file lays out, and give it back, with no word left over. The whole pack was
  -- taken.
  pub record-holds : {w n c l : ℕ} → answer_of q ≡ Taken w n c l → Bytes s
      → (v : Value) × LaysOut set s v × (take w t' ≡ words (pack set) v) × (decode (pack set) (take w t') s ≡ (v, []))
      × (length (take w t') ≡ w) × (w ≤ n) × (n ≡ length s)
  record-holds e bs =
      let k = common.only (called call) e in
      let r = (spec.whole-layout set s k.value k.place bs).0 k.ends in
      let d = common.decoded (called call) (spec.whole-reads set s) (pack-costs set) e in
      (k.value, (r.0, r.1, r.2), common.recorded (called call) e, d.0, d.1, d.2, omega (arith, k.bytes, r.3))

  -- ---- demand 3

  -- "The sum charged plus the budget left is the starting budget, for packs taken and refused. The sum is that of the
  -- longest opening part of the file's charge list that the starting budget covers."
  pub account : Account (amounts (charges set s)) b (left_of (answer_of q))
  account = common.account (called call)

  -- "In a taken answer charged is the sum of the whole list."
  pub charged : {w n c l : ℕ} → answer_of q ≡ Taken w n c l → (c ≡ total (charges set s)) × (c + l ≡ b)
  charged = common.charged (called call)

  -- "The sum equals the cost that document 01 works out from the finished record and its texts alone": any other file
  -- s' that has these texts where the record says gives the same cost.
  pub charged-cost : {w n c l : ℕ} → answer_of q ≡ Taken w n c l
      → (c ≡ record_cost set (take w t') s) × ((s' : List ℕ) → Held (decode (pack set) (take w t') s).0 s' → c ≡ record_cost set (take w t') s')
  charged-cost e =
      let cost = common.charged-cost (called call) (spec.whole-reads set s) (pack-costs set) e in
      (cost s (common.texts (called call) (spec.whole-reads set s) (pack-costs set) e), cost)

  -- "Read again under any starting budget, with tape enough and nothing else changed, that pack is taken with the same
  -- record, bytes taken and sum exactly when the budget reaches this cost; otherwise it is refused with
  -- AllocationBudgetExceeded at the first charge of the list that can't be paid."
  pub read_again : {w n c l : ℕ} → answer_of q ≡ Taken w n c l
      → {b₂ : ℕ} {t₂ : List ℕ} {q₂ : Answer} {t₂' : List ℕ} → ReadCall set s b₂ t₂ q₂ t₂' → w ≤ length t₂
      → (((answer_of q₂ ≡ Taken w n c (b₂ - c)) × (take w t₂' ≡ take w t')) ↔ (record_cost set (take w t') s ≤ b₂))
      × (b₂ < record_cost set (take w t') s → IsBroke (charges set s) b₂ (answer_of q₂) × (t₂' ≡ t₂))
  read_again e call₂ room = rw (← (charged-cost e).0) (common.again (called call) e (called call₂) room)

  -- The four answers, by the charge list. It ends with the pack, and budget and tape reach: taken.
  pub taken-where : {v : Value} {p : ℕ} → Ends (charges set s) v p → total (charges set s) ≤ b
      → length (words (pack set) v) ≤ length t
      → (answer_of q ≡ Taken (length (words (pack set) v)) (length s) (total (charges set s)) (b - total (charges set s)))
      × (t' ≡ words (pack set) v ++ drop (length (words (pack set) v)) t)
  taken-where {p = p} e h k = let all : p - 0 ≡ length s = omega (arith, spec.whole-end set s e) in rw all at (common.taken_at (called call) e h k)

  -- The tape does not: "26 NoRoom (d1 needed, d2 length)", after all charges; and 26 only there.
  pub no_room : {v : Value} {p : ℕ} → Ends (charges set s) v p → total (charges set s) ≤ b
      → length t < length (words (pack set) v)
      → (answer_of q ≡ Refused (no_room_for (length (words (pack set) v)) (length t)) (length s) (b - total (charges set s))) × (t' ≡ t)
  no_room e h k = rw (spec.whole-end set s e) at (common.short-at (called call) e h k)

  pub no-room-only : {x : Wrong} {p l : ℕ} → answer_of q ≡ Refused x p l → x.number ≡ Refusals.no_room
      → (v : Value) × Ends (charges set s) v p × (total (charges set s) ≤ b) × (length t < length (words (pack set) v))
  no-room-only = common.short-only (called call) (λ y i j h. whole-listed set s b h)

  -- It ends where a question is answered no, and the budget covers the charges before it: that refusal.
  pub answered-no : {x : Wrong} {p : ℕ} → out (charges set s) ≡ stopped x p → total (charges set s) ≤ b
      → (answer_of q ≡ Refused x p (b - total (charges set s))) × (t' ≡ t)
  answered-no = common.stopped-at (called call)

  -- The budget does not cover the list: 5 at the first charge that can't be paid.
  pub broke-where : b < total (charges set s) → IsBroke (charges set s) b (answer_of q) × (t' ≡ t)
  broke-where = common.broke-at (called call)

  -- ---- request 1

  -- "The bytes-left question now comes first, the budget second, HostCalls third": where the reading comes to n externs,
  -- at the place p with l of the budget left, it is refused with 2, 5 or 25, by these. What the base answered is
  -- `HostCalls.read-claims`.
  pub host-calls : {p l n : ℕ} → Counts set s b p l n → 1 ≤ n
      → (x : Wrong) × (m : ℕ) × Claims (size_of set ExternDef) n (p + 4) (length s) l x m × (answer_of q ≡ Refused x (p + 4) m) × (t' ≡ t)
  host-calls {p} {l} {n} c i =
      let k = some-claim (size_of set ExternDef) n (p + 4) (length s) l in
      let e = sym call.is ∙ (read-claims set s b c i k.2 t).0 in
      (k.0, k.1, k.2, ap (λ o. o.answer) e, ap (λ o. o.tape) e)

  -- "All other answers are as before": the base's.
  pub as_before : ((p l n : ℕ) → Counts set s b p l n → n ≡ 0)
      → base_read set s b t ≡ record { answer = answer_of q; tape = t' }
  as_before h = sym (read-as-before set s b h t) ∙ call.is

-- "Exactly the files whose charge list ends with the pack, not at a question, are taken under some starting budget with
-- tape enough": one of 64 bits.
pub some-budget : (set : Settings) → Licensed set → (s : List ℕ) → Bytes s
    → ((b : ℕ) × (t : List ℕ) × (q : Answer) × (t' : List ℕ) × (b < 2 ^ 64) × ReadCall set s b t q t' × AnswersTaken (answer_of q))
    ↔ ((v : Value) × (p : ℕ) × Ends (charges set s) v p)
unfolding vob.read_outcome
some-budget set licensed s bs = (
  λ h. let k = common.only (called h.5) h.6.4 in (k.value, k.place, k.ends),
  λ h.
      let r = (common.some-when (pack set) 0 (charges set s) (2 ^ 64) (λ _ _ _. spec.whole-bound set licensed s bs)).1 h in
      let o = vob.read_outcome set s r.0 r.1 in
      (r.0, r.1, Ok (record { words = r.2; bytes = r.3; charged = r.4; left = r.5 }), o.tape, r.6, record { is = ap (λ a. record { answer = a; tape = o.tape }) r.7 }, (_, _, _, _, refl)),
)
