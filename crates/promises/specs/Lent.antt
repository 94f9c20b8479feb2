-- The demands, of a section call that is lent its place and budget: what a caller knows of the answer q, of the tape t'
-- and of the position at' that `read_section(pack, section, at, tape)` leaves. It is the section call from that place
-- under that budget (`by-section`).
use Rattle.std.specs.Prelude.{ℕ, ◌+◌, ◌-◌, ◌^◌, ◌≤◌, ◌<◌, ◌≡◌, List, [], ◌++◌, ◌↔◌, length, take, drop}
use Rattle.std.proofs.Math.Path.{ap}
use Rattle.std.proofs.Common.{sym, ◌∙◌}
use Rattle.format.specs.Trace.{Wrong, Trace, amounts, total, stopped, out, Ends}
use Rattle.format.specs.Format.{Value}
use Rattle.format.specs.Reading.{little, part}
use Rattle.format.specs.Record.{words, decode, Held}
use Rattle.format.specs.Layout.{Bytes, bytes}
use Rattle.vob24.specs.Refusals
use Rattle.vob24.specs.Settings.{settings, ExternDef, size_of, max_pack_bytes}
use Rattle.vob24.specs.SizeTable.{settings-licensed}
use Rattle.vob24.specs.Grammar.{Section, externs, section}
use Rattle.vob24.specs.Cost.{section_cost, section_record_cost}
use Rattle.vob24.specs.Calls as vob
use Rattle.vob24.specs.Calls.{Taken, Refused, no_room_for}
use Rattle.vob24.specs.CallTheorems.{left_of, Account, IsBroke}
use Rattle.vob24_theorems.specs.RefusalNumbers.{Answered}
use Rattle.vob24_theorems.specs.HostCalls.{Claims, base_section}
use Rattle.calls.specs.Contract.{Answer, answer_of, SectionCall}
use Rattle.position.specs.Moving.{position_of}
use Rattle.position.specs.Contract.{LentCall}
use Rattle.position.specs.declared.Position.{Position}
use Rattle.promises.specs.Common.{Kept, StaysWithin, AnswersTaken}
use Rattle.promises.specs.Section as alone
use Rattle.promises.specs.Section.{charges, LaysOut}

-- Document 01's place and budget as the struct that is lent.
abbrev lent_as : vob.Position → Position
lent_as p = record { place = p.place; budget = p.budget }

-- The charge list from the place that is lent.
abbrev pub list : ℕ → Section → List ℕ → Position → Trace Value
list m x s at = charges settings m x s at.place

-- "place and budget, in one struct lent and advanced .. A refusal leaves it unmoved."
abbrev pub Moved : vob.Answer → Position → Position → Type 0
Moved (Taken w n c l) at at' = (at'.place ≡ at.place + n) × (at'.budget ≡ l)
Moved (Refused x p l) at at' = at' ≡ at

moves : (a : vob.Answer) (at at' : Position) → position_of at' ≡ vob.moved (position_of at) a → Moved a at at'
moves (Taken w n c l) at at' e = (ap (λ p. p.place) e, ap (λ p. p.budget) e)
moves (Refused x p l) at at' e = ap lent_as e

lent : {m : ℕ} {x : Section} {s : List ℕ} {a b : ℕ} {t : List ℕ} {q : Answer} {t' : List ℕ}
    → SectionCall settings m x s a b t q t'
    → LentCall m x s (record { place = a; budget = b }) t q (lent_as (vob.moved (record { place = a; budget = b }) (answer_of q))) t'
unfolding vob.lent_outcome
lent {a = a} {b = b} call = record { is = ap (vob.advancing (record { place = a; budget = b })) call.is }

module _ {m : ℕ} {x : Section} {s : List ℕ} {at : Position} {t : List ℕ} {q : Answer} {at' : Position} {t' : List ℕ} (call : LentCall m x s at t q at' t') where
  -- The section call from this place under this budget.
  pub by-section : SectionCall settings m x s at.place at.budget t q t'
  unfolding vob.lent_outcome
  by-section = record { is = ap (λ o. record { answer = o.answer; tape = o.tape }) call.is }

  moved : Moved (answer_of q) at at'
  unfolding vob.lent_outcome
  moved = moves (answer_of q) at at' (sym (ap (λ o. o.position) call.is) ∙ ap (λ o. vob.moved (position_of at) o.answer) by-section.is)

  advanced : {w n c l : ℕ} → answer_of q ≡ Taken w n c l → (at'.place ≡ at.place + n) × (at'.budget ≡ l)
  advanced e = rw e at moved

  unmoved : {y : Wrong} {p l : ℕ} → answer_of q ≡ Refused y p l → at' ≡ at
  unmoved e = rw e at moved

  -- ---- demand 1

  -- "taken or refused with one number of document 01": 1 to 27.
  pub one_answer : Answered (answer_of q)
  one_answer = alone.one_answer by-section

  -- "A refusal changes no lent memory, an acceptance only the tape's counted words, a section call's lent place and
  -- budget."
  pub memory : Kept (answer_of q) t t' × Moved (answer_of q) at at'
  memory = (alone.memory by-section, moved)

  -- A place in the pack is lent: the place shown, or the bytes taken, lie between it and the pack's end.
  pub places : at.place ≤ length s → StaysWithin at.place (length s) (answer_of q)
  places = alone.places by-section

  -- ---- demand 2

  -- "Layout ..: given budget and tape enough, what they admit is taken, nothing else." `Bytes s` holds of any caller's
  -- slice of bytes.
  pub layout : Bytes s
      → AnswersTaken (answer_of q)
      ↔ ((v : Value) × LaysOut settings m x s at.place v × (section_cost settings x v ≤ at.budget) × (length (words (section settings m x) v) ≤ length t))
  layout = alone.layout by-section

  -- "It writes its own section's words from the tape's first word on": those of the value that stands at the place; the
  -- place at exit is where that value's bytes end.
  pub record-holds : {w n c l : ℕ} → answer_of q ≡ Taken w n c l → Bytes s
      → (v : Value) × LaysOut settings m x s at.place v
      × (take w t' ≡ words (section settings m x) v) × (decode (section settings m x) (take w t') s ≡ (v, []))
      × (length (take w t') ≡ w) × (w ≤ n) × (at'.place ≡ at.place + length (bytes (section settings m x) v))
  record-holds e bs =
      let r = alone.record-holds by-section e bs in
      (r.0, r.1, r.2, r.3, r.4, r.5, (advanced e).0 ∙ ap (λ i. at.place + i) r.6)

  -- ---- demand 3

  -- "The sum charged plus the budget left is the starting budget, for packs taken and refused. The sum is that of the
  -- longest opening part of the charge list that the starting budget covers": the budget lent is the starting one.
  pub account : Account (amounts (list m x s at)) at.budget (left_of (answer_of q))
  account = alone.account by-section

  -- "In a taken answer charged is the sum of the whole list": the budget at exit is what it leaves.
  pub charged : {w n c l : ℕ} → answer_of q ≡ Taken w n c l
      → (c ≡ total (list m x s at)) × (c + at'.budget ≡ at.budget)
  charged {c = c} e = let r = alone.charged by-section e in (r.0, ap (λ i. c + i) (advanced e).1 ∙ r.1)

  -- "The sum equals the cost that document 01 works out from the finished record and its texts alone."
  pub charged-cost : {w n c l : ℕ} → answer_of q ≡ Taken w n c l
      → (c ≡ section_record_cost settings m x (take w t') s)
      × ((s' : List ℕ) → Held (decode (section settings m x) (take w t') s).0 s' → c ≡ section_record_cost settings m x (take w t') s')
  charged-cost = alone.charged-cost by-section

  -- The four answers, by the charge list: taken,
  pub taken-where : {v : Value} {p : ℕ} → Ends (list m x s at) v p → total (list m x s at) ≤ at.budget
      → length (words (section settings m x) v) ≤ length t
      → (answer_of q ≡ Taken (length (words (section settings m x) v)) (p - at.place) (total (list m x s at)) (at.budget - total (list m x s at)))
      × (t' ≡ words (section settings m x) v ++ drop (length (words (section settings m x) v)) t)
  taken-where = alone.taken-where by-section

  -- 26 with the words needed, and only there,
  pub no_room : {v : Value} {p : ℕ} → Ends (list m x s at) v p → total (list m x s at) ≤ at.budget
      → length t < length (words (section settings m x) v)
      → (answer_of q ≡ Refused (no_room_for (length (words (section settings m x) v)) (length t)) p (at.budget - total (list m x s at)))
      × (t' ≡ t) × (at' ≡ at)
  no_room e h k = let r = alone.no_room by-section e h k in (r.0, r.1, unmoved r.0)

  pub no-room-only : {y : Wrong} {p l : ℕ} → answer_of q ≡ Refused y p l → y.number ≡ Refusals.no_room
      → (v : Value) × Ends (list m x s at) v p × (total (list m x s at) ≤ at.budget) × (length t < length (words (section settings m x) v))
  no-room-only = alone.no-room-only by-section

  -- a question answered no,
  pub answered-no : {y : Wrong} {p : ℕ} → out (list m x s at) ≡ stopped y p → total (list m x s at) ≤ at.budget
      → (answer_of q ≡ Refused y p (at.budget - total (list m x s at))) × (t' ≡ t) × (at' ≡ at)
  answered-no e h = let r = alone.answered-no by-section e h in (r.0, r.1, unmoved r.0)

  -- and 5 at the first charge that can't be paid.
  pub broke-where : at.budget < total (list m x s at)
      → IsBroke (list m x s at) at.budget (answer_of q) × (t' ≡ t) × (at' ≡ at)
  broke-where h = let r = alone.broke-where by-section h in (r.0, r.1, unmoved r.0.is)

-- "Read again under any starting budget, with tape enough and nothing else changed, [it] is taken with the same record,
-- bytes taken and sum exactly when the budget reaches this cost; otherwise it is refused with AllocationBudgetExceeded
-- at the first charge of the list that can't be paid": from the same place.
pub read_again : {m : ℕ} {x : Section} {s : List ℕ} {a b : ℕ} {t : List ℕ} {q : Answer} {at' : Position} {t' : List ℕ}
    → LentCall m x s (record { place = a; budget = b }) t q at' t'
    → {w n c l : ℕ} → answer_of q ≡ Taken w n c l
    → {b₂ : ℕ} {t₂ : List ℕ} {q₂ : Answer} {at₂' : Position} {t₂' : List ℕ}
    → LentCall m x s (record { place = a; budget = b₂ }) t₂ q₂ at₂' t₂' → w ≤ length t₂
    → (((answer_of q₂ ≡ Taken w n c (b₂ - c)) × (take w t₂' ≡ take w t')) ↔ (section_record_cost settings m x (take w t') s ≤ b₂))
    × (b₂ < section_record_cost settings m x (take w t') s
    → IsBroke (charges settings m x s a) b₂ (answer_of q₂) × (t₂' ≡ t₂) × (at₂' ≡ record { place = a; budget = b₂ }))
read_again call e call₂ room =
    let r = alone.read_again (by-section call) e (by-section call₂) room in
    (r.0, λ h. let k = r.1 h in (k.0, k.1, unmoved call₂ k.0.is))

-- Request 1, of the call on the externs: that of the section call, and the position is left.
module _ {m : ℕ} {s : List ℕ} {at : Position} {t : List ℕ} {q : Answer} {at' : Position} {t' : List ℕ} (call : LentCall m externs s at t q at' t') where
  pub host-calls : length s ≤ max_pack_bytes → at.place + 4 ≤ length s → {n : ℕ} → little (part s at.place 4) ≡ n
      → 1 ≤ n
      → (y : Wrong) × (l : ℕ) × Claims (size_of settings ExternDef) n (at.place + 4) (length s) at.budget y l × (answer_of q ≡ Refused y (at.place + 4) l) × (t' ≡ t) × (at' ≡ at)
  host-calls h i e j = let k = alone.host-calls (by-section call) h i e j in (k.0, k.1, k.2, k.3, k.4, unmoved call k.3)

  pub as_before : (length s ≤ max_pack_bytes → at.place + 4 ≤ length s → little (part s at.place 4) ≡ 0)
      → base_section settings s at.place at.budget t ≡ record { answer = answer_of q; tape = t' }
  as_before = alone.as_before (by-section call)

-- "Exactly the files whose charge list ends with the pack, not at a question, are taken under some starting budget with
-- tape enough": with the section, from this place on, under one of 64 bits.
pub some-budget : (m : ℕ) (x : Section) (s : List ℕ) (a : ℕ) → Bytes s
    → ((b : ℕ) × (t : List ℕ) × (q : Answer) × (at' : Position) × (t' : List ℕ)
    × (b < 2 ^ 64) × LentCall m x s (record { place = a; budget = b }) t q at' t' × AnswersTaken (answer_of q))
    ↔ ((v : Value) × (p : ℕ) × Ends (charges settings m x s a) v p)
some-budget m x s a bs = (
  λ h. (alone.some-budget settings settings-licensed m x s a bs).0 (h.0, h.1, h.2, h.4, h.5, by-section h.6, h.7),
  λ h. let r = (alone.some-budget settings settings-licensed m x s a bs).1 h in (r.0, r.1, r.2, _, r.3, r.4, lent r.5, r.6),
)
