-- The laws of packed numbers: what the loop over the bytes has read, and what it leads to.
use Rattle.std.specs.Prelude.{Ok, Err}
use Rattle.std.specs.Result.{IsErrAnd}
use Prim.Native.Nat.{ℕ, zero, suc, ◌+◌, ◌-◌, ◌*◌, ◌%◌, ◌^◌, ◌≤◌, ◌<◌}
use mathlib.Core.Path.{◌≡◌, refl, sym, ap, ◌∙◌}
use mathlib.Core.List.{List}
use native.Mathlib.Omega.{arith}
use native.Mathlib.Nat.{add_comm, add-mul, mul_assoc, mul_comm, lt_of_lt_of_le}
use borrow.Author.Tests.{le-leb, lt-leb, lt-ltb, le-ltb}
use lib.Bits.{bit_or, bit_and, and_mask}
use lib.Pow.{pow-add, pow_mono}
use Rattle.format.specs.Trace.{Wrong, wrong, unexpected_eof, invalid_source_integer, end, settle, refused, taken}
use Rattle.format.specs.Format.{num, packed}
use Rattle.format.specs.Reading.{packed_step, trace_packed, trace_leaf}
use Rattle.format.specs.SettleTheorems.{then_s, settle-bind}
use Rattle.reader.specs.Contract.{told, ReadyAt, Read}
use Rattle.reader.specs.Leaves.{Fetched, Short, Fetches, Answers, answered, denied}
use Rattle.reader.specs.declared.Cursor.{Cursor}
use Rattle.reader.specs.declared.Refusal.{Refusal}
use Rattle.reader.proofs.Errors.{handed}
use Rattle.reader.proofs.Gather.{gather, gather-lt}
use Rattle.reader.proofs.Settles.{guard-yes, guard-no, field-yes, field-no}
use Rattle.reader.proofs.Leaves.{fetched, shorts, below, past-ready}

-- ---- one byte of the trace, with at most k after it and m the least that it may be as the last

module _ {s : List ℕ} {d e : Cursor} {b : ℕ} (f : Fetched 1 s d b e) where
  step-over : (m : ℕ) → 15 < b
      → settle d.left (trace_packed 0 m s d.place) ≡ refused (wrong invalid_source_integer 0) e.place e.left
  unfolding trace_packed
  step-over m h = rw f.next (field-yes d.left 1 s d.place _ f.room ∙ rw (← f.is) (guard-no d.left _ _ _ (lt-leb _ _ h)))

  step-padded : (k m : ℕ) → (k ≡ 0 → b ≤ 15) → b < 128 → b < m
      → settle d.left (trace_packed k m s d.place) ≡ refused (wrong invalid_source_integer 0) e.place e.left
  unfolding trace_packed packed_step
  step-padded zero m o h g =
      rw f.next (field-yes d.left 1 s d.place _ f.room ∙ rw (← f.is) (guard-yes d.left _ _ _ (le-leb _ _ (o refl)) ∙ guard-no d.left _ _ _ (lt-leb _ _ g)))
  step-padded (suc k) m o h g =
      rw f.next (field-yes d.left 1 s d.place _ f.room ∙ rw (← f.is, lt-ltb _ _ h) (guard-no d.left _ _ _ (lt-leb _ _ g)))

  step-last : (k m : ℕ) → (k ≡ 0 → b ≤ 15) → b < 128 → m ≤ b
      → settle d.left (trace_packed k m s d.place) ≡ taken b e.place e.left
  unfolding trace_packed packed_step settle
  step-last zero m o h g =
      rw f.next (field-yes d.left 1 s d.place _ f.room ∙ rw (← f.is) (guard-yes d.left _ _ _ (le-leb _ _ (o refl)) ∙ guard-yes d.left _ _ _ (le-leb _ _ g)))
  step-last (suc k) m o h g =
      rw f.next (field-yes d.left 1 s d.place _ f.room ∙ rw (← f.is, lt-ltb _ _ h) (guard-yes d.left _ _ _ (le-leb _ _ g)))

  step-more : (k m : ℕ) → 128 ≤ b
      → settle d.left (trace_packed (suc k) m s d.place) ≡ then_s (settle e.left (trace_packed k 1 s e.place)) (λ n q l. taken (b - 128 + 128 * n) q l)
  unfolding trace_packed packed_step settle
  step-more k m h =
      rw f.next (field-yes d.left 1 s d.place _ f.room ∙ rw (← f.is, le-ltb _ _ h) (settle-bind d.left (trace_packed k 1 s (d.place + 1)) _))

-- ---- the groups of seven bits

-- byte number i, b, has passed the test for the fifth byte: m of its bits count
pub record Room (i b : ℕ) : Type 0 where
  pub m : ℕ
  pub group : b % 128 < 2 ^ m
  pub fits : m + 7 * i ≤ 32
  pub fifth : i ≡ 4 → b ≤ 15
  pub more : 128 ≤ b → i + 1 < 5

pub room-last : (i b : ℕ) → i ≡ 4 → b ≤ 15 → Room i b
room-last i b e h = record { m = 4; group = omega arith; fits = omega arith; fifth = λ _. h; more = omega arith }

pub room-before : (i b : ℕ) → i < 5 → (i ≡ 4 → ⊥) → Room i b
room-before i b h n = record { m = 7; group = omega arith; fits = omega arith; fifth = λ e. absurd (n e); more = omega arith }

module _ (i v b : ℕ) (r : Room i b) (hv : v < 2 ^ (7 * i)) where
  or-group : bit_or v ((bit_and b 127 * 2 ^ (7 * i)) % 2 ^ 32) ≡ v + b % 128 * 2 ^ (7 * i)
  or-group = rw (and_mask b 7) (gather r.m (7 * i) 32 v (b % 128) hv r.group r.fits ∙ add_comm _ _)

  group-lt : v + b % 128 * 2 ^ (7 * i) < 2 ^ (7 * (i + 1))
  group-lt = let e : 7 * (i + 1) ≡ 7 + 7 * i = omega arith in rw (e, add_comm v _) (gather-lt 7 (7 * i) v (b % 128) hv (omega arith))

  group-word : v + b % 128 * 2 ^ (7 * i) < 4294967296
  group-word = rw (add_comm v _) (lt_of_lt_of_le (gather-lt r.m (7 * i) v (b % 128) hv r.group) (pow_mono {i = r.m + 7 * i} {j = 32} r.fits))

  pub or_word : bit_or v ((bit_and b 127 * 2 ^ (7 * i)) % 2 ^ 32) < 4294967296
  or_word = rw or-group group-word

-- the group of a byte that is not the last, and the number of the groups above it, at the weight of byte number i
weigh : (v b n i : ℕ) → 128 ≤ b → b < 256
    → v + (b - 128 + 128 * n) * 2 ^ (7 * i) ≡ v + b % 128 * 2 ^ (7 * i) + n * 2 ^ (7 * (i + 1))
weigh v b n i g h =
    let e : 7 * (i + 1) ≡ 7 + 7 * i = omega arith in
    let w = 2 ^ (7 * i) in
    let f : b - 128 ≡ b % 128 = omega arith in
    rw (e, pow-add 2 7 (7 * i), f) (omega (arith, add-mul (b % 128) (128 * n) w, mul_assoc 128 n w, mul_assoc n 128 w, mul_comm n 128))

-- ---- the loop

abbrev least : ℕ → ℕ
least zero = 0
least (suc i) = 1

-- THE invariant: i bytes are read, of which v is the number so far, and k may follow the next one
pub record Packing (s : List ℕ) (c : Cursor) (v : ℕ) (d : Cursor) (i : ℕ) : Type 0 where
  pub k : ℕ
  pub turn : k + i ≡ 4
  pub below : v < 2 ^ (7 * i)
  pub ready : ReadyAt s d
  pub stays : d.at ≡ c.at
  pub takes : {n q l : ℕ} → settle d.left (trace_packed k (least i) s d.place) ≡ taken n q l
      → settle c.left (trace_leaf packed s c.place) ≡ taken (num (v + n * 2 ^ (7 * i))) q l
  pub refuses : {w : Wrong} {q l : ℕ} → settle d.left (trace_packed k (least i) s d.place) ≡ refused w q l
      → settle c.left (trace_leaf packed s c.place) ≡ refused w q l

pub packing-start : {s : List ℕ} {c : Cursor} → ReadyAt s c → Packing s c 0 c 0
unfolding trace_leaf settle then_s
packing-start {s} {c} r =
    record {
      k = 4;
      turn = refl;
      below = omega arith;
      ready = r;
      stays = refl;
      takes = λ {n} e. settle-bind c.left (trace_packed 4 0 s c.place) (λ n q. end (num n) q) ∙ rw e (let j : n ≡ 0 + n * 2 ^ (7 * 0) = omega arith in rw (← j));
      refuses = λ e. settle-bind c.left (trace_packed 4 0 s c.place) (λ n q. end (num n) q) ∙ rw e;
    }

step-short : {s : List ℕ} {d : Cursor} {x : Refusal} (k m : ℕ) → Short 1 s d x
    → settle d.left (trace_packed k m s d.place) ≡ refused (wrong unexpected_eof 0) d.place d.left
unfolding trace_packed
step-short {s} {d} zero m h = field-no d.left 1 s d.place _ h.room
step-short {s} {d} (suc k) m h = field-no d.left 1 s d.place _ h.room

module _ {s : List ℕ} {c : Cursor} {v : ℕ} {d : Cursor} {i : ℕ} (p : Packing s c v d i) {q : Read ℕ} where
  pub packing-short : {p' : Read ℕ} {x : Refusal} → q ≡ Err x → IsErrAnd p' (λ y. y ≡ x) → Fetches 1 s d q → Answers packed s c p'
  packing-short {p'} e j h = let k = shorts e h in rw (handed p' j) (denied (record { settles = p.refuses (step-short p.k (least i) k) ∙ sym k.is }))

  module _ {b : ℕ} {e : Cursor} (y : q ≡ Ok (b, e)) (h : Fetches 1 s d q) where
    pub packing-over : {x : Refusal} → i ≡ 4 → 15 < b → told x ≡ refused (wrong invalid_source_integer 0) e.place e.left
        → Answers packed s c (Err x)
    packing-over j g w =
        let z : p.k ≡ 0 = omega (arith, p.turn) in
        let o : settle d.left (trace_packed p.k (least i) s d.place) ≡ refused (wrong invalid_source_integer 0) e.place e.left = rw z (step-over (fetched y h) (least i) g) in
        denied (record { settles = p.refuses o ∙ sym w })

    module _ (r : Room i b) where
      fifth : p.k ≡ 0 → b ≤ 15
      fifth z = r.fifth (omega (arith, p.turn))

      pub packing-padded : {x : Refusal} → b < 128 → (i ≡ 0 → ⊥) → b ≡ 0
          → told x ≡ refused (wrong invalid_source_integer 0) e.place e.left → Answers packed s c (Err x)
      packing-padded g n z w = denied (record { settles = p.refuses (step-padded (fetched y h) p.k (least i) fifth g (one i n)) ∙ sym w })
        where
          one : (i : ℕ) → (i ≡ 0 → ⊥) → b < least i
          one zero n = absurd (n refl)
          one (suc i) n = omega arith

      last : b < 128 → least i ≤ b → Answers packed s c (Ok (v + b % 128 * 2 ^ (7 * i), e))
      last g m =
          let w : b % 128 ≡ b = omega arith in
          let f = fetched y h in
          let o = p.takes (step-last f p.k (least i) fifth g m) in
          answered {n = v + b % 128 * 2 ^ (7 * i)} {d = e}
          (record {
            settles = rw w o;
            word = group-word i v b r p.below;
            stays = ap (λ (x : Cursor). x.at) f.next ∙ p.stays;
          })

      pub packing-first : b < 128 → i ≡ 0 → Answers packed s c (Ok (bit_or v ((bit_and b 127 * 2 ^ (7 * i)) % 2 ^ 32), e))
      packing-first g z = rw (or-group i v b r p.below) (last g (go i z))
        where
          go : (i : ℕ) → i ≡ 0 → least i ≤ b
          go zero z = omega arith
          go (suc i) z = absurd (omega arith)

      pub packing-last : b < 128 → (b ≡ 0 → ⊥)
          → Answers packed s c (Ok (bit_or v ((bit_and b 127 * 2 ^ (7 * i)) % 2 ^ 32), e))
      packing-last g n = rw (or-group i v b r p.below) (last g (go i))
        where
          go : (i : ℕ) → least i ≤ b
          go zero = omega arith
          go (suc i) = omega arith

      pub packing-more : 128 ≤ b → Packing s c (bit_or v ((bit_and b 127 * 2 ^ (7 * i)) % 2 ^ 32)) e (i + 1)
      unfolding then_s
      packing-more g =
          let f = fetched y h in
          let z : p.k ≡ suc (p.k - 1) = omega (arith, p.turn, r.more g) in
          let o : i + 1 ≡ suc i = omega arith in
          let u : b < 256 = omega (arith, below f) in
          let more = step-more f (p.k - 1) (least i) g in
          rw (or-group i v b r p.below)
          (record {
            k = p.k - 1;
            turn = omega (arith, p.turn);
            below = group-lt i v b r p.below;
            ready = past-ready p.ready y h;
            stays = ap (λ (x : Cursor). x.at) f.next ∙ p.stays;
            takes = λ {n} {q} {l} w. p.takes {n = b - 128 + 128 * n} {q = q} {l = l} (rw z (more ∙ rw (rw o at w))) ∙ rw (weigh v b n i g u);
            refuses = λ {w = x} {q} {l} w. p.refuses {w = x} {q = q} {l = l} (rw z (more ∙ rw (rw o at w)));
          })
