-- The laws of short packed numbers: read off the eight bytes that begin with them.
use Rattle.std.specs.Prelude.{Ok}
use Prim.Native.Nat.{ℕ, suc, zero, ◌+◌, ◌-◌, ◌*◌, ◌/◌, ◌%◌, ◌≤◌, ◌<◌}
use mathlib.Core.Path.{◌≡◌, refl, sym, ◌∙◌}
use mathlib.Core.Bool.{Bool, true, false}
use mathlib.Core.List.{List, [], ◌∷◌}
use native.Mathlib.Omega.{arith}
use lib.Dec.{ltb}
use lib.Bits.{bit_and, and_block, and_high}
use lib.ListN.{length, get_or, set}
use borrow.Author.Tests.{le-leb, lt-ltb, le-ltb, ltb-true, ltb-false}
use Rattle.format.specs.Trace.{end, settle, taken}
use Rattle.format.specs.Format.{num}
use Rattle.format.specs.Reading.{little, part, packed_step, trace_packed, trace_leaf, trace}
use Rattle.format.specs.Record.{words, words_leaf}
use Rattle.format.specs.Layout.{Bytes}
use Rattle.format.specs.SettleTheorems.{then_s, settle-bind}
use Rattle.vob24.specs.Leaves.{source_u32}
use Rattle.reader.specs.Contract.{ReadyAt, Read}
use Rattle.reader.specs.Leaves.{Fetches, Fetched}
use Rattle.reader.specs.declared.Cursor.{Cursor}
use Rattle.reader.proofs.Gather.{read, read_take}
use Rattle.reader.proofs.Leaves.{fetched}
use Rattle.reader.proofs.Settles.{guard-yes, field-yes}
use Rattle.lists.specs.Runs.{advanced, Runs, Copied}
use Rattle.lists.specs.declared.Rest.{Rest}
use Rattle.lists.proofs.Copying.{byte_at}
use Rattle.reader.proofs.Laws.{comes-on}
use Rattle.lists.proofs.Items.{Item, runs_of, runs-one}
use Rattle.debug_info.specs.Packs.{Packs, last, more}

-- ---- one number

-- the low byte of a number, and the bytes above it
low_byte : (x b r : ℕ) → b < 256 → x ≡ b + 256 * r → x % 256 ≡ b
low_byte x b r h e = omega arith

above : (x b r : ℕ) → b < 256 → x ≡ b + 256 * r → x / 256 ≡ r
above x b r h e = omega arith

-- x is the number of the w bytes from p on
packs-settles : (w : ℕ) (s : List ℕ) (p : ℕ) {k m x v j : ℕ} → Packs k m x v j → j ≤ w → p + w ≤ length s
    → Bytes (read w s p) → x ≡ little (read w s p) → (b : ℕ) → settle b (trace_packed k m s p) ≡ taken v (p + j) b
unfolding trace_packed packed_step settle then_s little
packs-settles zero s p (last h l) i r y e b = absurd (omega arith)
packs-settles zero s p (more h k) i r y e b = absurd (omega arith)
packs-settles (suc w) s p (last {x = x} h l) i r y e b =
    let f : little (part s p 1) ≡ x % 256 = byte_at s p (omega arith) ∙ sym (low_byte x (get_or s p 0) (little (read w s (p + 1))) y.0 e) in
    field-yes b 1 s p _ (omega arith) ∙ rw (f, lt-ltb _ _ h) (guard-yes b _ _ _ (le-leb _ _ l))
packs-settles (suc w) s p (more {k = k} {x = x} {v = v} {j = j} h a) i r y e b =
    let f : little (part s p 1) ≡ x % 256 = byte_at s p (omega arith) ∙ sym (low_byte x (get_or s p 0) (little (read w s (p + 1))) y.0 e) in
    let g = packs-settles w s (p + 1) a (omega arith) (omega arith) y.1 (above x (get_or s p 0) (little (read w s (p + 1))) y.0 e) b in
    let o : p + 1 + j ≡ p + suc j = omega arith in
    field-yes b 1 s p _ (omega arith) ∙ rw (f, le-ltb _ _ h) (settle-bind b (trace_packed k 1 s (p + 1)) _ ∙ rw (g, o))

source-settles : {x v j : ℕ} (w : ℕ) (s : List ℕ) (p : ℕ) → Packs 4 0 x v j → j ≤ w → p + w ≤ length s
    → Bytes (read w s p) → x ≡ little (read w s p) → (b : ℕ) → settle b (trace source_u32 s p) ≡ taken (num v) (p + j) b
unfolding trace trace_leaf settle then_s
source-settles w s p a i r y e b = settle-bind b (trace_packed 4 0 s p) (λ n q. end (num n) q) ∙ rw (packs-settles w s p a i r y e b)

-- ---- eight numbers of one byte

-- the high bits of so many bytes
abbrev highs : ℕ → ℕ
highs zero = 0
highs (suc n) = 128 + 256 * highs n

no-high : (b : ℕ) → b < 256 → bit_and b 128 ≡ 0 → b < 128
no-high b h e =
    let f : bit_and b 128 ≡ b / 128 % 2 * 128 = and_high b 1 7 in
    let g : b / 128 % 2 ≡ b / 128 = omega arith in
    omega arith

split-and : (b r h : ℕ) → b < 256 → bit_and (b + 256 * r) (128 + 256 * h) ≡ bit_and r h * 256 + bit_and b 128
split-and b r h k =
    let e : b + 256 * r ≡ r * 256 + b = omega arith in
    let f : 128 + 256 * h ≡ h * 256 + 128 = omega arith in
    rw (e, f) (and_block 8 r h b 128 k (omega arith))

-- a number without them has small bytes only
none-high : (w : ℕ) (s : List ℕ) (p : ℕ) → Bytes (read w s p) → bit_and (little (read w s p)) (highs w) ≡ 0 → (i : ℕ)
    → p ≤ i → i < p + w → get_or s i 0 < 128
unfolding little
none-high zero s p y e i h k = absurd (omega arith)
none-high (suc w) s p y e i h k = go (λ o. none-high w s (p + 1) y.1 (omega (arith, both)) i (omega (arith, o)) (omega arith)) (ltb p i) refl
  where
    both : bit_and (little (read w s (p + 1))) (highs w) * 256 + bit_and (get_or s p 0) 128 ≡ 0
    both = sym (split-and (get_or s p 0) (little (read w s (p + 1))) (highs w) y.0) ∙ e

    go : (p < i → get_or s i 0 < 128) → (t : Bool) → ltb p i ≡ t → get_or s i 0 < 128
    go f true o = f (ltb-true p i o)
    go f false o = let z : i ≡ p = omega (arith, ltb-false p i o) in rw z (no-high (get_or s p 0) y.0 (omega (arith, both)))

one_byte : (s : List ℕ) (p : ℕ) → p + 1 ≤ length s → get_or s p 0 < 128 → Item source_u32 (1 ∷ []) s p
unfolding words words_leaf little
one_byte s p r h =
    let e : get_or s p 0 + 256 * 0 ≡ get_or s p 0 = omega arith in
    let f : get_or s p 0 % 256 ≡ get_or s p 0 = omega arith in
    record {
      value = num (get_or s p 0 % 256);
      settles = λ b. source-settles {x = get_or s p 0} 1 s p (last (omega arith) (omega arith)) (omega arith) r (omega arith, tt) (sym e) b;
      shows = rw (f, byte_at s p r);
    }

-- ---- runs

-- x is the number of the w bytes from p on
record Begins (s : List ℕ) (p w x : ℕ) : Type 0 where
  room : p + w ≤ length s
  bytes : Bytes (read w s p)
  is : x ≡ little (read w s p)

begins : {s : List ℕ} {c d : Cursor} {x : ℕ} → Fetched 8 s c x d → Begins s c.place 8 x
begins {s} {c} k = let o = read_take 8 s c.place k.room in record { room = k.room; bytes = rw o at k.bytes; is = rw o at k.is }

begins-past : {s : List ℕ} {p w x : ℕ} → Begins s p (suc w) x → Begins s (p + 1) w (x / 256)
unfolding little
begins-past {s} {p} {w} {x} k = record { room = omega (arith, k.room); bytes = k.bytes.1; is = above x (get_or s p 0) (little (read w s (p + 1))) k.bytes.0 k.is }

runs-begun : {s : List ℕ} {c : Cursor} {w x v j n : ℕ} {t : List ℕ} → Begins s c.place w x → ReadyAt s c → 0 < n
    → j ≤ w → Packs 4 0 x v j → Runs source_u32 s c t n (record { items = n - 1; at = advanced c j 1 }) (set t c.at v)
unfolding words words_leaf
runs-begun {s} {c} {w} {v = v} k r h i a =
    runs-one {v = num v} h r
    (record {
      settles = source-settles w s c.place a i k.room k.bytes k.is c.left;
      moves = refl;
      writes = refl;
    })
    refl

-- the eight bytes were there
module _ {s : List ℕ} {c d : Cursor} {x : ℕ} {q : Read ℕ} (g : q ≡ Ok (x, d)) (f : Fetches 8 s c q) (r : ReadyAt s c) {n : ℕ} {t t' : List ℕ} {z : Rest} where
  pub runs-eight : 8 ≤ n → bit_and x 9259542123273814144 ≡ 0 → Copied (1 ∷ []) 8 s c.place t c.at t'
      → z ≡ record { items = n - 8; at = advanced c 8 8 } → Runs source_u32 s c t n z t'
  runs-eight h o a e =
      let k = begins (fetched g f) in
      let low = none-high 8 s c.place k.bytes (rw k.is at o) in
      runs_of {ws = 1 ∷ []} {m = 8} r h (omega (arith, k.room)) (omega arith) (λ p i l. one_byte s p (omega (arith, k.room)) (low p i (omega arith))) a (omega arith) (omega arith) e

  pub runs-short : {v j : ℕ} → 0 < n → j ≤ 4 → Packs 4 0 x v j → t' ≡ set t c.at v
      → z ≡ record { items = n - 1; at = advanced c j 1 } → Runs source_u32 s c t n z t'
  runs-short h i a w e = rw (w, e) (runs-begun (begins (fetched g f)) r h (omega arith) a)

  -- a number of one byte, and a second one
  pub runs-pair : {v j u i : ℕ} {t₁ : List ℕ} → 2 ≤ n → j ≡ 1 → Packs 4 0 x v j → t₁ ≡ set t c.at v → i ≤ 4
      → Packs 4 0 (x / 256) u i → t' ≡ set t₁ (c.at + 1) u → z ≡ record { items = n - 2; at = advanced c (1 + i) 2 }
      → Runs source_u32 s c t n z t'
  runs-pair {v} {j} {u} {i} h o a w k b y e =
      let m = begins (fetched g f) in
      let l = runs-begun {n = n} {t = t} m r (omega arith) (omega arith) (rw o at a) in
      let e₁ : n - 2 ≡ n - 1 - 1 = omega arith in
      let e₂ : c.place + (1 + i) ≡ c.place + 1 + i = omega arith in
      let e₃ : c.at + 2 ≡ c.at + 1 + 1 = omega arith in
      rw (e, y, w, e₁, e₂, e₃) (comes-on l (runs-begun {n = n - 1} (begins-past m) l.ready (omega arith) (omega arith) b))

-- what a run leaves
pub fewer-items : {n : ℕ} (k : ℕ) {d : Cursor} {z : Rest} → z ≡ record { items = n - k; at = d } → z.items ≤ n
fewer-items k e = rw e (omega arith)
