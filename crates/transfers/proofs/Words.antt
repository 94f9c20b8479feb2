-- The laws of transfer words.
use Rattle.std.proofs.Common.{Ok, Err, ℕ, ◌+◌, ◌/◌, ◌%◌, ◌≤◌, ◌<◌, ◌≡◌, refl, ap, sym, ◌∙◌, List, [], ◌∷◌, ◌++◌, map, append_assoc, Bool, true, false, arith, leb, ltb, length, length-append, le-leb}
use borrow.Author.Tests.{lt-leb}
use Rattle.format.specs.Trace.{Wrong, refused, pick}
use Rattle.format.specs.Format.{Value, number, first, second}
use Rattle.format.specs.Reading.{little, part}
use Rattle.vob24.specs.Leaves.{packed_ok}
use Rattle.vob24.specs.Questions.{refuse_unless, function_wrong, transfer_words}
use Rattle.vob24.specs.Grammar.{transfer, transferred}
use Rattle.reader.specs.Contract.{refusal, told, Asks, Step}
use Rattle.reader.specs.declared.Cursor.{Cursor}
use Rattle.reader.specs.declared.Refusal.{Refusal}
use Rattle.reader.specs.declared.kinds.Kind.TheVariants.{InvalidFunctionMetadata}
use Rattle.reader.proofs.Asks.{asks-then, asks-not, asks_none, asks-deny}
use Rattle.in_place.specs.Walk.{Stands, value_at, next_at, items_at, items-length, parts}
use Rattle.in_place.specs.Contract.{over, WordIs, Placed, Past}
use Rattle.in_place.proofs.Places.{number-stands}
use Rattle.transfers.specs.Words.{transfer_asks, transfer_over}

-- ---- a packed word
module _ (n : ℕ) where
  pub packed-kind : 24 < n % 256 → leb (n % 256) 24 ≡ packed_ok n
  unfolding pick
  packed-kind h = rw (lt-leb (n % 256) 24 h)

  pub packed-id : n % 256 ≤ 24 → ltb (n / 256) 0xffffff ≡ packed_ok n
  unfolding pick
  packed-id h = rw (le-leb (n % 256) 24 h)

-- ---- an entry
pub record TransferStands (s : List ℕ) (p : ℕ) : Type 0 where
  pub room : p + 10 ≤ length s
  pub next : next_at transfer s p ≡ p + 10
  pub meta : (transferred (value_at transfer s p)).0 ≡ little (part s p 4)
  pub rttid : (transferred (value_at transfer s p)).1 ≡ little (part s (p + 4) 4)

pub transfer-stands : {s : List ℕ} {p : ℕ} → Stands transfer s p → TransferStands s p
unfolding transfer
transfer-stands {s} {p} h =
    let a = parts h in
    let b = parts a.back in
    let x = number-stands a.fore in
    let y = number-stands b.fore in
    let z = number-stands b.back in
    record {
      room = omega (arith, x.next, y.next, z.room);
      next = omega (arith, a.next, b.next, x.next, y.next, z.next);
      meta = ap (λ v. number (first v)) a.value ∙ ap number x.value;
      rttid = ap (λ v. number (first (second v))) a.value ∙ ap (λ v. number (first v)) b.value ∙ ap number y.value ∙ ap (λ q. little (part s q 4)) x.next;
    }

pub transfer-past : {s : List ℕ} {p : ℕ} → Placed transfer s p → Past transfer s p (p + 10)
transfer-past h = record { is = sym (transfer-stands h.stands).next }

-- ---- the answers of `transfer`
module _ (w : Wrong) {b : Bool} {c : Cursor} where
  unless-no : {x : Refusal} {q : Step} → b ≡ false → q ≡ Err x → told x ≡ refused w c.place c.left → Asks (refuse_unless b w) c q
  unfolding pick
  unless-no e i k = rw (e, i) (asks-deny k)

  unless-yes : b ≡ true → Asks (refuse_unless b w) c (Ok c)
  unfolding pick
  unless-yes e = rw e asks_none

module _ {s : List ℕ} {p : ℕ} (h : Placed transfer s p) {m : ℕ} (j : WordIs s p m) {a : Bool} (k : a ≡ packed_ok m) where
  meta-is : (transferred (value_at transfer s p)).0 ≡ m
  meta-is = (transfer-stands h.stands).meta ∙ sym j.is

  pub transfer-meta : (context i : ℕ) {c : Cursor} {q : Step} → a ≡ false
      → q ≡ Err (refusal InvalidFunctionMetadata context i m c)
      → Asks (transfer_asks context i (value_at transfer s p)) c q
  unfolding transfer_asks
  transfer-meta context i {c} e r = rw (r, meta-is) (asks-not _ (unless-no (function_wrong context i m) {c = c} (sym k ∙ e) refl refl))

  module _ (e : a ≡ true) {n : ℕ} (g : WordIs s (p + 4) n) {b : Bool} (f : b ≡ packed_ok n) where
    rttid-is : (transferred (value_at transfer s p)).1 ≡ n
    rttid-is = (transfer-stands h.stands).rttid ∙ sym g.is

    pub transfer-rttid : (context i : ℕ) {c : Cursor} {q : Step} → b ≡ false
        → q ≡ Err (refusal InvalidFunctionMetadata (context + 1) i n c)
        → Asks (transfer_asks context i (value_at transfer s p)) c q
    unfolding transfer_asks
    transfer-rttid context i o r = rw (meta-is, rttid-is) (asks-then _ (unless-yes _ (sym k ∙ e)) (unless-no _ (sym f ∙ o) r refl))

    pub transfer-ok : (context i : ℕ) {c : Cursor} → b ≡ true
        → Asks (transfer_asks context i (value_at transfer s p)) c (Ok c)
    unfolding transfer_asks
    transfer-ok context i o = rw (meta-is, rttid-is) (asks-then _ (unless-yes _ (sym k ∙ e)) (unless-yes _ (sym f ∙ o)))

-- the entry numbered i comes after i others
pub transfer-turn : (context i : ℕ) (s : List ℕ) (from p : ℕ) {c : Cursor} {q : Step}
    → Asks (transfer_asks context i (value_at transfer s p)) c q
    → Asks (transfer_over context (items_at transfer i s from) (value_at transfer s p)) c q
transfer-turn context i s from p h = rw (items-length transfer i s from) h

-- ---- the grammar's words, entry by entry
transfers-from : (c : ℕ) (before vs : List Value)
    → transfer_words c (length before) (map transferred vs) ≡ over (transfer_over c) before vs
unfolding over transfer_asks transfer_words
transfers-from c before [] = refl
transfers-from c before (v ∷ vs) =
    let e : length (before ++ (v ∷ [])) ≡ length before + 1 = length-append before (v ∷ []) in
    let r = transfers-from c (before ++ (v ∷ [])) vs in
    rw (append_assoc, ← r, e)

pub transfers-asked : (context : ℕ) (vs : List Value) {c : Cursor} {q : Step}
    → Asks (over (transfer_over context) [] vs) c q → Asks (transfer_words context 0 (map transferred vs)) c q
transfers-asked context vs a = rw (transfers-from context [] vs) a
