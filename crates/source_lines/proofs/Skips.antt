-- The laws of packed numbers that were read, by the bytes that end them.
use Rattle.std.proofs.Common.{ℕ, suc, zero, ◌+◌, ◌-◌, ◌*◌, ◌≤◌, ◌<◌, ◌≡◌, refl, ap, sym, ◌∙◌, List, Bool, true, false, arith, add-one, length, get_or, ltb, leb→le, ltb-true, ltb-false, lt-ltb, le-ltb, Ok, Err}
use Rattle.std.specs.Int.{from_bool}
use Rattle.format.specs.Trace.{pick, out, Ends, amounts, sum, total}
use Rattle.format.specs.Format.{num, number, first, packed}
use Rattle.format.specs.Reading.{little, part, packed_step, trace_packed, trace_leaf, trace}
use Rattle.format.proofs.TraceTheorems.{Ends-guard, Ends-bind, field-ends}
use Rattle.format.proofs.ChargeSums.{free-bind, packed-free}
use Rattle.format.specs.SettleTheorems.{settle-taken}
use Rattle.vob24.specs.Settings.{max_pack_bytes}
use Rattle.vob24.specs.Leaves.{source_u32}
use Rattle.vob24.specs.Fields.{location_of}
use Rattle.vob24.specs.Grammar.{location}
use Rattle.reader.specs.Contract.{cursor_at, Read}
use Rattle.reader.specs.Leaves.{Answers, answered, denied}
use Rattle.reader.proofs.Gather.{read_take}
use Rattle.reader.specs.declared.Cursor.{Cursor}
use Rattle.reader.specs.declared.Refusal.{Refusal}
use Rattle.in_place.specs.Walk.{Stands, value_at, next_at, last_at, AllStand, stand, parts, passed}
use Rattle.in_place.specs.Contract.{Placed, Items}
use Rattle.source_lines.specs.Packed.{ending, endings, Skips, done, within, ends, NumbersAt, PackedIs, LocationIs}
use Rattle.source_lines.specs.declared.packed.Packed.{Packed}

-- ---- bytes passed over

module _ {s : List ℕ} where
  -- one byte, where a number is to come
  skips-byte : {k p q : ℕ} → Skips s k p q → 0 < k → (p < length s) × Skips s (k - ending (get_or s p 0)) (p + 1) q
  unfolding pick
  skips-byte done h = absurd (omega arith)
  skips-byte (within {k = k} {p = p} l b r) h = let e : suc k - 0 ≡ suc k = omega arith in (l, rw (le-ltb (get_or s p 0) 128 b, e) r)
  skips-byte (ends {k = k} {p = p} l b r) h = let e : suc k - 1 ≡ k = omega arith in (l, rw (lt-ltb (get_or s p 0) 128 b, e) r)

  -- n bytes, where more numbers are to come than end there
  skips-bytes : {k p q : ℕ} (n : ℕ) → Skips s k p q → endings s p n < k → Skips s (k - endings s p n) (p + n) q
  unfolding endings
  skips-bytes {k} {p} zero r h = let e : k - 0 ≡ k = omega arith in let f : p + 0 ≡ p = omega arith in rw (e, f) r
  skips-bytes {k} {p} (suc n) r h =
      let x = (skips-byte (skips-bytes n r (omega arith)) (omega arith)).1 in
      let e : k - endings s p n - ending (get_or s (p + n) 0) ≡ k - (endings s p n + ending (get_or s (p + n) 0)) = omega arith in
      let f : p + n + 1 ≡ p + suc n = omega arith in
      rw (e, f) at x

  -- each number has a byte, and ends in the pack
  skips-room : {k p q : ℕ} → Skips s k p q → p ≤ length s → (p + k ≤ q) × (q ≤ length s)
  skips-room done h = (omega arith, h)
  skips-room (within l b r) h = let x = skips-room r (omega arith) in (omega (arith, x.0), x.1)
  skips-room (ends l b r) h = let x = skips-room r (omega arith) in (omega (arith, x.0), x.1)

  skips-start : {k p q : ℕ} → Skips s k p q → 0 < k → p ≤ length s
  skips-start r h = omega (arith, (skips-byte r h).0)

  pub skips-none : {k p q : ℕ} → Skips s k p q → k ≤ 0 → p ≡ q
  skips-none done h = refl
  skips-none (within l b r) h = absurd (omega arith)
  skips-none (ends l b r) h = absurd (omega arith)

  skips-one : {k p q r : ℕ} → Skips s k p q → Skips s k p r → q ≡ r
  skips-one done done = refl
  skips-one (within l b x) (within m c y) = skips-one x y
  skips-one (within l b x) (ends m c y) = absurd (omega arith)
  skips-one (ends l b x) (within m c y) = absurd (omega arith)
  skips-one (ends l b x) (ends m c y) = skips-one x y

  -- the first of them, and the others
  skips-first : {k p q : ℕ} → Skips s k p q → 0 < k → (m : ℕ) × Skips s 1 p m × Skips s (k - 1) m q
  skips-first done h = absurd (omega arith)
  skips-first (within {k = k} l b r) h = let x = skips-first r (omega arith) in (x.0, within l b x.1, x.2)
  skips-first (ends {k = k} {p = p} l b r) h = let e : suc k - 1 ≡ k = omega arith in (p + 1, ends l b done, rw e r)

  skips-join : {j k p q r : ℕ} → Skips s j p q → Skips s k q r → Skips s (j + k) p r
  skips-join {k = k} done y = let e : 0 + k ≡ k = omega arith in rw e y
  skips-join {k = k} (within {k = j} l b x) y = let e : suc j + k ≡ suc (j + k) = omega arith in rw e (within l b (rw e at (skips-join x y)))
  skips-join {k = k} (ends {k = j} l b x) y = let e : suc j + k ≡ suc (j + k) = omega arith in rw e (ends l b (skips-join x y))

-- ---- a packed number

byte-is : (s : List ℕ) (p : ℕ) → p + 1 ≤ length s → little (part s p 1) ≡ get_or s p 0
unfolding little
byte-is s p h = ap little (read_take 1 s p h) ∙ omega arith

packed-skips : (k m : ℕ) (s : List ℕ) (p : ℕ) {v q : ℕ} → Ends (trace_packed k m s p) v q → {j r : ℕ} → Skips s j q r
    → Skips s (suc j) p r
unfolding trace_packed packed_step out
packed-skips zero m s p {v} {q} e x =
    let a = field-ends 1 s p _ e in
    let b = Ends-guard _ _ _ _ a.1 in
    let c = Ends-guard _ _ _ _ b.1 in
    let y : q ≡ p + 1 = cc c.1 in
    ends {p = p} (omega (arith, a.0)) (omega (arith, leb→le (little (part s p 1)) 15 b.0, byte-is s p a.0)) (rw y at x)
packed-skips (suc k) m s p {v} {q} e {j} {r} x =
    let a = field-ends 1 s p _ e in
    go (ltb (little (part s p 1)) 128) refl a.0 a.1 (λ w f. packed-skips k 1 s (p + 1) f x)
  where
    go : (d : Bool) → ltb (little (part s p 1)) 128 ≡ d → p + 1 ≤ length s
        → Ends (packed_step d m (little (part s p 1)) (p + 1) (trace_packed k 1 s (p + 1))) v q
        → ((w : ℕ) → Ends (trace_packed k 1 s (p + 1)) w q → Skips s (suc j) (p + 1) r) → Skips s (suc j) p r
    go true i l f rest =
        let c = Ends-guard _ _ _ _ f in
        let y : q ≡ p + 1 = cc c.1 in
        ends {p = p} (omega arith) (omega (arith, ltb-true (little (part s p 1)) 128 i, byte-is s p l)) (rw y at x)
    go false i l f rest =
        let c = Ends-bind (trace_packed k 1 s (p + 1)) _ f in
        let y : c.1 ≡ q = cc c.3 in
        within {p = p} (omega arith) (omega (arith, ltb-false (little (part s p 1)) 128 i, byte-is s p l)) (rest c.0 (rw y at c.2))

number-skips : {s : List ℕ} {p j r : ℕ} → Stands source_u32 s p → Skips s j (next_at source_u32 s p) r → Skips s (suc j) p r
number-skips {s} {p} h x = let a = passed h in packed-skips 4 0 s p a.1 x

-- one that ends with its first byte
number_short : {s : List ℕ} {p : ℕ} → Stands source_u32 s p → get_or s p 0 < 128 → number (value_at source_u32 s p) ≡ get_or s p 0
unfolding trace_packed packed_step out
number_short {s} {p} h l =
    let a = passed h in
    let b = field-ends 1 s p _ a.1 in
    let i : little (part s p 1) < 128 = omega (arith, byte-is s p b.0) in
    let c = Ends-guard _ _ _ _ (rw (lt-ltb (little (part s p 1)) 128 i) at b.1) in
    let v : little (part s p 1) ≡ a.0 = cc c.1 in
    ap number a.2 ∙ sym v ∙ byte-is s p b.0

-- read by its leaf
module _ {s : List ℕ} {p : ℕ} (h : Placed source_u32 s p) where
  pub packed-room : p < length s
  unfolding trace_packed
  packed-room = omega (arith, (field-ends 1 s p _ (passed h.stands).1).0)

  -- of one byte
  pub packed-short : {x : ℕ} → get_or s p 0 < 128 → x ≡ get_or s p 0 → PackedIs s p (record { value = x; next = p + 1 })
  packed-short l e =
      let x : Skips s 1 p (p + 1) = ends {k = 0} {p = p} {q = p + 1} packed-room l done in
      record { value = e ∙ sym (number_short h.stands l); next = skips-one x (number-skips h.stands done) }

  module _ {q : Read ℕ} (a : Answers packed s (cursor_at p 0 0) q) where
    pub packed-got : {n : ℕ} {d : Cursor} → q ≡ Ok (n, d) → PackedIs s p (record { value = n; next = d.place })
    unfolding trace
    packed-got {n} {d} e = go (rw e at a)
      where
        go : Answers packed s (cursor_at p 0 0) (Ok (n, d)) → PackedIs s p (record { value = n; next = d.place })
        go (answered x) =
            let y = stand ((settle-taken 0 (trace source_u32 s p) (num n) d.place d.left).0 x.settles).0 in
            record { value = sym (ap number y.value); next = sym y.next }

    -- what was read is not refused
    pub packed-not : {x : Refusal} {r : Packed} → q ≡ Err x → PackedIs s p r
    unfolding trace trace_leaf amounts sum
    packed-not {x} {r} e = go (rw e at a)
      where
        go : Answers packed s (cursor_at p 0 0) (Err x) → PackedIs s p r
        go (denied y) =
            let f : total (trace source_u32 s p) ≡ 0 = free-bind _ _ (packed-free 4 0 s p) (λ n q. refl) in
            let i = (settle-taken 0 (trace source_u32 s p) (value_at source_u32 s p) (next_at source_u32 s p) 0).1 (h.stands.ends, omega arith, omega arith) in
            absurd (cc y.settles)

-- ---- the loops of `past_numbers`

-- Of n numbers from p on, k are to come from `at` on.
pub record Passing (s : List ℕ) (p n at k : ℕ) : Type 0 where
  pub small : length s ≤ max_pack_bytes
  pub end : ℕ
  pub whole : Skips s n p end
  pub rest : Skips s k at end

module _ {s : List ℕ} {p n : ℕ} where
  pub passing-start : NumbersAt n s p → Passing s p n p n
  passing-start h = record { small = h.small; end = h.end; whole = h.skips; rest = h.skips }

  module _ {at k : ℕ} (l : Passing s p n at k) where
    -- a block, where more numbers are to come than it has bytes
    module _ (h : 32 < k) where
      pub passing-room : (at + 32 ≤ length s) × (length s ≤ max_pack_bytes)
      passing-room = let x = skips-room l.rest (skips-start l.rest (omega arith)) in (omega (arith, x.0, x.1), l.small)

      pub passing-block : {m : ℕ} → (m ≡ endings s at 32) × (m ≤ 32) → Passing s p n (at + 32) (k - m)
      passing-block {m} e = rw e.0 (record { small = l.small; end = l.end; whole = l.whole; rest = skips-bytes 32 l.rest (omega (arith, e.0, e.1)) })

    -- a number
    module _ (h : 0 < k) where
      pub passing-number : NumbersAt 1 s at
      passing-number = let x = skips-first l.rest h in record { small = l.small; end = x.0; skips = x.1 }

      pub passing-next : {q : ℕ} → Skips s 1 at q → Passing s p n q (k - 1)
      passing-next y =
          let x = skips-first l.rest h in
          record { small = l.small; end = l.end; whole = l.whole; rest = rw (skips-one x.1 y) at x.2 }

    pub passing-on : {j : ℕ} → k ≡ j → Passing s p n at j
    passing-on e = rw e at l

    pub passing-done : k ≤ 0 → Skips s n p at
    passing-done h = rw (skips-none l.rest h) l.whole

-- the loop of `past_number`: the number at p goes on at `at`
pub record Inside (s : List ℕ) (p at : ℕ) : Type 0 where
  pub small : length s ≤ max_pack_bytes
  pub end : ℕ
  pub whole : Skips s 1 p end
  pub rest : Skips s 1 at end

module _ {s : List ℕ} {p : ℕ} where
  module _ {at : ℕ} (l : Inside s p at) where
    pub inside-here : (at < length s) × (length s ≤ max_pack_bytes)
    inside-here = ((skips-byte l.rest (omega arith)).0, l.small)

    pub inside-more : 127 < get_or s at 0 → Inside s p (at + 1)
    unfolding pick
    inside-more h =
        record {
          small = l.small;
          end = l.end;
          whole = l.whole;
          rest = rw (le-ltb (get_or s at 0) 128 (omega arith)) at (skips-byte l.rest (omega arith)).1;
        }

    pub inside-done : get_or s at 0 ≤ 127 → Skips s 1 p (at + 1)
    unfolding pick
    inside-done h =
        let x : Skips s 0 (at + 1) l.end = rw (lt-ltb (get_or s at 0) 128 (omega arith)) at (skips-byte l.rest (omega arith)).1 in
        rw (skips-none x (omega arith)) l.whole

-- the loop of `ends_in`
pub endings-none : (s : List ℕ) (p : ℕ) → 0 ≡ endings s p 0
unfolding endings
endings-none s p = refl

pub endings-more : (s : List ℕ) (p k : ℕ) {n m : ℕ} → n ≡ endings s p k → m ≡ ending (get_or s (p + k) 0)
    → n + m ≡ endings s p (k + 1)
unfolding endings
endings-more s p k e f = rw (add-one k, e, f)

-- ---- locations

-- A location that was read at p: its address, and the four numbers behind it.
pub record LocationStands (s : List ℕ) (p : ℕ) : Type 0 where
  pub pc : number (location_of (value_at location s p)).pc ≡ number (value_at source_u32 s p)
  pub first : Stands source_u32 s p
  pub rest : Skips s 4 (next_at source_u32 s p) (next_at location s p)

location-stands : {s : List ℕ} {p : ℕ} → Stands location s p → LocationStands s p
unfolding location
location-stands h =
    let a = parts h in
    let b = parts a.back in
    let c = parts b.back in
    let d = parts c.back in
    record {
      pc = ap (λ v. number (first v)) a.value;
      first = a.fore;
      rest = rw (a.next ∙ b.next ∙ c.next ∙ d.next) (number-skips b.fore (number-skips c.fore (number-skips d.fore (number-skips d.back done))));
    }

pub locations-skip : (n : ℕ) (s : List ℕ) (p : ℕ) → AllStand location n s p → Skips s (n * 5) p (last_at location n s p)
unfolding AllStand last_at
locations-skip zero s p h = done
locations-skip (suc n) s p h =
    let a = location-stands h.0 in
    let e : 5 + n * 5 ≡ suc n * 5 = omega arith in
    rw e at (skips-join (number-skips a.first a.rest) (locations-skip n s (next_at location s p) h.1))

pub ending-is : (b : ℕ) {n : ℕ} → n ≡ from_bool (ltb b 128) → (n ≡ ending b) × (n ≤ 1)
unfolding pick
ending-is b {n} e = go (ltb b 128) refl e
  where
    go : (d : Bool) → ltb b 128 ≡ d → n ≡ from_bool d → (n ≡ ending b) × (n ≤ 1)
    go true i f = (rw (i, f), omega (arith, f))
    go false i f = (rw (i, f), omega (arith, f))

-- ---- a location as the code reads it

module _ {s : List ℕ} {p : ℕ} (h : Placed location s p) where
  pub location-first : Placed source_u32 s p
  location-first = record { small = h.small; stands = (location-stands h.stands).first }

  module _ {x : Packed} (w : PackedIs s p x) where
    pub location-rest : Passing s x.next 4 x.next 4
    location-rest =
        let y : NumbersAt 4 s (next_at source_u32 s p) = record { small = h.small; end = next_at location s p; skips = (location-stands h.stands).rest } in
        passing-start (rw w.next y)

    pub location-is : {q : ℕ} → Passing s x.next 4 q 0 → LocationIs s p (record { value = x.value; next = q })
    location-is y =
        let a = location-stands h.stands in
        record { pc = w.value ∙ sym a.pc; next = skips-one (rw w.next at (passing-done y (omega arith))) a.rest }

-- ---- a list of locations

module _ {s : List ℕ} {p n : ℕ} (i : Items location n s p) where
  pub list-numbers : NumbersAt (n * 5) s p
  list-numbers = record { small = i.small; end = last_at location n s p; skips = locations-skip n s p i.all }

  pub list-end : {q : ℕ} → Skips s (n * 5) p q → q ≡ last_at location n s p
  list-end x = skips-one x (locations-skip n s p i.all)
