-- The laws of filters: what is not in one was not seen, so the first repeat that the passes find is the first of all.
use Rattle.std.proofs.Common.{ℕ, ◌+◌, ◌-◌, ◌*◌, ◌/◌, ◌%◌, ◌^◌, ◌<◌, ◌≡◌, refl, ap, sym, ◌∙◌, List, Bool, true, false, not, Result, Ok, Err, arith, length, get_or, set, replicate, length-set, get_or-set_same, get_or-set_other, bit_and, bit_or, eqb, below_more, eqb-true}
use Rattle.std.proofs.lemmas.Bool.{eqb-false, not-true}
use Rattle.std.proofs.lemmas.Nat.{and_or_self, and_le_r, and_comm, and_mask, or_lt}
use lib.Bits.{and_zero_r}
use Rattle.in_place.specs.declared.Table.{Table}
use Rattle.in_place.specs.Tables.{format_in}
use Rattle.in_place.specs.Items.{text_at}
use Rattle.in_place.specs.Contract.{TextAt, Past, Items, Seen}
use Rattle.in_place.proofs.Walking.{Walking, walking_start, walking-next}
use Rattle.repeat_search.specs.declared.Classes.{Classes}
use Rattle.repeat_search.specs.declared.GaveUp.{GaveUp}
use Rattle.repeat_search.specs.Keys.{Key, hash_of, kind_of, repeat_at, FirstRepeat}
use Rattle.repeat_search.specs.Hashes.{tail_hash}
use Rattle.repeat_search.specs.Tables.{keys_at, key_hash, ExemptIs, KeyHash, Standing}
use Rattle.repeat_search.specs.Filters.{spot, mask_of, Has, Lacks, Entered, Classed, Outside, ClassedBy, Chosen, Noted, Filter, Cleared, Passed, PassedOr, Suspects, FirstOr}
use Rattle.repeat_search.proofs.Bits.{bits-stay}
use Rattle.repeat_search.proofs.Keys.{repeat-none}
use Rattle.repeat_search.proofs.Tables.{walking-stands, standing-text, standing-key, standing-exempt, standing-seen}
use Rattle.repeat_search.proofs.Tails.{standing-tail}

-- ---- a hash in a filter

pub spot-fits : (f : List ℕ) (h : ℕ) → 0 < length f → spot f h < length f
spot-fits f h z = omega (arith, and_le_r h (length f - 1))

word-stays : (f : List ℕ) (i j v m : ℕ) → i < length f → bit_and (get_or f j 0) m ≡ m
    → bit_and (get_or (set f i (bit_or (get_or f i 0) v)) j 0) m ≡ m
word-stays f i j v m small e = go (eqb j i) refl
  where
    go : (t : Bool) → eqb j i ≡ t → bit_and (get_or (set f i (bit_or (get_or f i 0) v)) j 0) m ≡ m
    go true q = let z : j ≡ i = eqb-true j i q in rw (z, get_or-set_same f i (bit_or (get_or f i 0) v) 0 small) (bits-stay (get_or f i 0) v m (rw z at e))
    go false q = rw (get_or-set_other f i j (bit_or (get_or f i 0) v) 0 (eqb-false _ _ q)) e

module _ {f : List ℕ} {h m : ℕ} (e : m ≡ mask_of h) where
  lacks-bits : not (eqb (bit_and (get_or f (spot f h) 0) m) m) ≡ true → Has f h → ⊥
  lacks-bits t w = eqb-false (bit_and (get_or f (spot f h) 0) m) m (not-true (eqb (bit_and (get_or f (spot f h) 0) m) m) t) (rw e w.bits)

  pub enters : 0 < length f
      → Entered f h (set f (spot f h) (bit_or (get_or f (spot f h) 0) m)) (not (eqb (bit_and (get_or f (spot f h) 0) m) m))
  enters z =
      let w = bit_or (get_or f (spot f h) 0) m in
      let small = spot-fits f h z in
      record {
        has = record { bits = rw (length-set f (spot f h) w, get_or-set_same f (spot f h) w 0 small, e) (and_or_self (mask_of h) (get_or f (spot f h) 0)) };
        keeps = λ k i. record { bits = rw (length-set f (spot f h) w) (word-stays f (spot f h) (spot f k) m (mask_of k) small i.bits) };
        size = length-set f (spot f h) w;
        new = lacks-bits;
      }

-- what has every bit
bit-fits : (k : ℕ) → 1 * 2 ^ k % 2 ^ 64 < 2 ^ 64
bit-fits k = omega arith

or-fits : {x y : ℕ} → x < 2 ^ 64 → y < 2 ^ 64 → bit_or x y < 2 ^ 64
or-fits {x} {y} h k = or_lt 64 x y h k

mask_fits : (h : ℕ) → mask_of h < 2 ^ 64
unfolding mask_of
mask_fits h = or-fits (or-fits (or-fits (or-fits (or-fits (bit-fits (h / 1048576 % 64)) (bit-fits (h / 4294967296 % 64))) (bit-fits (h / 274877906944 % 64))) (bit-fits (h / 17592186044416 % 64))) (bit-fits (h / 1125899906842624 % 64))) (bit-fits (h / 72057594037927936 % 64))

pub has_all : (h : ℕ) → Has (replicate 1 18446744073709551615) h
has_all h = record { bits = go (bit_and h 0) (and_zero_r h) }
  where
    full : bit_and 18446744073709551615 (mask_of h) ≡ mask_of h
    full = let m = mask_fits h in and_comm 18446744073709551615 (mask_of h) ∙ and_mask (mask_of h) 64 ∙ omega arith

    go : (k : ℕ) → k ≡ 0 → bit_and (get_or (replicate 1 18446744073709551615) k 0) (mask_of h) ≡ mask_of h
    go k e = rw e full

-- ---- the hashes of keys in a filter

pub filter_none : {Kind : List ℕ → List ℕ → Type 0} {hash : List ℕ → List ℕ → ℕ} {keys : ℕ → Key} {f : List ℕ} → 0 < length f
    → Filter Kind hash keys 0 f
filter_none z = record { size = z; has = λ k d. absurd (omega arith) }

module _ {Kind : List ℕ → List ℕ → Type 0} {hash : List ℕ → List ℕ → ℕ} {keys : ℕ → Key} {i : ℕ} {f : List ℕ} (l : Filter Kind hash keys i f) where
  -- a key that is not there repeats none
  pub filter-new : kind_of Kind (keys i) → (Has f (hash_of hash (keys i)) → ⊥) → repeat_at keys i ≡ false
  filter-new c h = repeat-none keys i (λ k d x y. let z : hash_of hash (keys i) ≡ hash_of hash (keys k) = rw (x, y) in h (rw z (l.has k d (rw (x, y) at c))))

  -- so one that repeats another is there
  pub filter-repeat : kind_of Kind (keys i) → repeat_at keys i ≡ true → Has f (hash_of hash (keys i))
  filter-repeat c r = go (eqb (bit_and (get_or f (spot f (hash_of hash (keys i))) 0) (mask_of (hash_of hash (keys i)))) (mask_of (hash_of hash (keys i)))) refl
    where
      go : (b : Bool)
          → eqb (bit_and (get_or f (spot f (hash_of hash (keys i))) 0) (mask_of (hash_of hash (keys i)))) (mask_of (hash_of hash (keys i))) ≡ b
          → Has f (hash_of hash (keys i))
      go true e = record { bits = eqb-true _ _ e }
      go false e = let x = filter-new c (λ w. eqb-false _ _ e w.bits) in absurd (cc)

  pub filter_more : {g : List ℕ} → length g ≡ length f → ((k : ℕ) → Has f k → Has g k)
      → (kind_of Kind (keys i) → Has g (hash_of hash (keys i))) → Filter Kind hash keys (i + 1) g
  filter_more {g} z keeps here = record { size = omega (arith, l.size); has = below_more (λ k. kind_of Kind (keys k) → Has g (hash_of hash (keys k))) i (λ k d c. keeps _ (l.has k d c)) here }

hash-is : {seed : ℕ} {t : Table} {s : List ℕ} {from i p h : ℕ} → Standing t s from i p → KeyHash seed t s p h
    → hash_of (key_hash t seed) (keys_at t s from i) ≡ h
hash-is {seed} {t} w e = ap (hash_of (key_hash t seed)) (standing-key w) ∙ sym e.is

-- the answers of `probed`
module _ (seed : ℕ) {t : Table} {s : List ℕ} {from i p : ℕ} {cs : Classes} {u f : List ℕ} (w : Standing t s from i p)
    (l : Filter (Chosen cs (key_hash t seed) (tail_hash seed) u) (key_hash t seed) (keys_at t s from) i f) where
  not_chosen : (kind_of (Chosen cs (key_hash t seed) (tail_hash seed) u) (keys_at t s from i) → ⊥)
      → Cleared (Chosen cs (key_hash t seed) (tail_hash seed) u) (key_hash t seed) (keys_at t s from) i f
  not_chosen n = record { filter_on = filter_more l refl (λ k i. i) (λ c. absurd (n c)); new = λ c. absurd (n c) }

  pub probed-skips : {q : Bool} → Lacks u (tail_hash seed (text_at s p)) q → q ≡ true
      → Cleared (Chosen cs (key_hash t seed) (tail_hash seed) u) (key_hash t seed) (keys_at t s from) i f
  probed-skips o r = not_chosen (λ c. o.lacks r (rw (standing-tail seed w) at c.ending))

  -- of hash h
  module _ {h : ℕ} (e : KeyHash seed t s p h) where
    pub probed-outside : {q : Bool} → Outside cs h q → q ≡ true
        → Cleared (Chosen cs (key_hash t seed) (tail_hash seed) u) (key_hash t seed) (keys_at t s from) i f
    probed-outside o r = not_chosen (λ c. o.out r (rw (hash-is w e) at c.classed))

    pub probed-lacks : {q : Bool} → Lacks u h q → q ≡ true
        → Cleared (Chosen cs (key_hash t seed) (tail_hash seed) u) (key_hash t seed) (keys_at t s from) i f
    probed-lacks o r = not_chosen (λ c. o.lacks r (rw (hash-is w e) at c.suspect))

    module _ {g : List ℕ} {n : Bool} (x : Entered f h g n) where
      entered : Filter (Chosen cs (key_hash t seed) (tail_hash seed) u) (key_hash t seed) (keys_at t s from) (i + 1) g
      entered = let z = hash-is w e in filter_more l x.size x.keeps (λ c. rw z x.has)

      pub probed-new : n ≡ true
          → Cleared (Chosen cs (key_hash t seed) (tail_hash seed) u) (key_hash t seed) (keys_at t s from) i g
      probed-new r = let z = hash-is w e in record { filter_on = entered; new = λ c. filter-new l c (rw z (x.new r)) }

      module _ {b : Bool} (y : ExemptIs t s p b) where
        pub probed-exempt : b ≡ true
            → Cleared (Chosen cs (key_hash t seed) (tail_hash seed) u) (key_hash t seed) (keys_at t s from) i g
        probed-exempt r = record { filter_on = entered; new = λ c. standing-exempt w y r }

        pub probed-unseen : {q : Bool} → b ≡ false → Seen t s from i p q → q ≡ false
            → Cleared (Chosen cs (key_hash t seed) (tail_hash seed) u) (key_hash t seed) (keys_at t s from) i g
        probed-unseen d v r = record { filter_on = entered; new = λ c. standing-seen w y d v ∙ r }

-- ---- the loop of `pass`
pub record Passing (Kind : List ℕ → List ℕ → Type 0) (hash : List ℕ → List ℕ → ℕ) (t : Table) (s : List ℕ) (from n : ℕ) (f : List ℕ) (p i : ℕ) : Type 0 where
  pub walk : Walking (format_in t) s from n p i
  pub filter : Filter Kind hash (keys_at t s from) i f
  pub new : (k : ℕ) → k < i → kind_of Kind (keys_at t s from k) → repeat_at (keys_at t s from) k ≡ false

module _ {Kind : List ℕ → List ℕ → Type 0} {hash : List ℕ → List ℕ → ℕ} {t : Table} {s : List ℕ} {from n : ℕ} where
  pub passing-start : {f : List ℕ} → Items (format_in t) n s from → 0 < length f → Passing Kind hash t s from n f from 0
  passing-start h z = record { walk = walking_start h; filter = filter_none z; new = λ k d. absurd (omega arith) }

  pub passing-more : {f g : List ℕ} {p i z : ℕ} → Passing Kind hash t s from n f p i → i < n
      → Cleared Kind hash (keys_at t s from) i g → Past (format_in t) s p z → Passing Kind hash t s from n g z (i + 1)
  passing-more {i = i} l h x w = record { walk = walking-next h l.walk w; filter = x.filter_on; new = below_more (λ k. kind_of Kind (keys_at t s from k) → repeat_at (keys_at t s from) k ≡ false) i l.new x.new }

-- ---- the loop of `suspect`
pub record Suspecting (cs : Classes) (seed : ℕ) (t : Table) (s : List ℕ) (from n : ℕ) (f u : List ℕ) (p i : ℕ) : Type 0 where
  pub walk : Walking (format_in t) s from n p i
  pub filter : Filter (ClassedBy cs (key_hash t seed)) (key_hash t seed) (keys_at t s from) i f
  pub suspects : Suspects cs (key_hash t seed) (tail_hash seed) (keys_at t s from) i u
  pub width : 0 < length u

module _ {cs : Classes} {seed : ℕ} {t : Table} {s : List ℕ} {from n : ℕ} where
  pub suspecting-start : {f u : List ℕ} → Items (format_in t) n s from → 0 < length f → 0 < length u
      → Suspecting cs seed t s from n f u from 0
  suspecting-start h z y = record { walk = walking_start h; filter = filter_none z; suspects = record { has = λ k d. absurd (omega arith) }; width = y }

  module _ {f u : List ℕ} {p i : ℕ} (l : Suspecting cs seed t s from n f u p i) where
    pub suspecting-text : i < n → TextAt s p
    suspecting-text d = standing-text {t = t} (walking-stands d l.walk)

    pub suspecting-more : {h z : ℕ} {f' u' : List ℕ} → i < n → KeyHash seed t s p h
        → Noted cs h (tail_hash seed (text_at s p)) f f' u u' → Past (format_in t) s p z
        → Suspecting cs seed t s from n f' u' z (i + 1)
    suspecting-more {h} {z} {f'} {u'} d e m w =
        let o : Standing t s from i p = walking-stands d l.walk in
        let x : hash_of (key_hash t seed) (keys_at t s from i) ≡ h = hash-is o e in
        let v = standing-tail seed o in
        record {
          walk = walking-next d l.walk w;
          filter = filter_more l.filter m.size m.keeps (rw x m.has);
          suspects = record { has = below_more (λ k. Classed cs (hash_of (key_hash t seed) (keys_at t s from k)) → repeat_at (keys_at t s from) k ≡ true → Has u' (hash_of (key_hash t seed) (keys_at t s from k)) × Has u' (tail_hash seed (keys_at t s from k).name)) i (λ k d c r. let y = l.suspects.has k d c r in (m.stays _ y.0, m.stays _ y.1)) (λ c r. let y = filter-repeat l.filter c r in rw (x, v) (m.suspect (rw x at c) (rw x at y))) };
          width = omega (arith, l.width, m.width);
        }

module _ {cs : Classes} {hash : List ℕ → List ℕ → ℕ} {tail : List ℕ → ℕ} {keys : ℕ → Key} {n : ℕ} {u : List ℕ} (l : Suspects cs hash tail keys n u) where
  suspects-passed : {q : ℕ} → Passed (Chosen cs hash tail u) keys n q → Passed (ClassedBy cs hash) keys n q
  suspects-passed {q} p = record { within = p.within; new = λ k d c. go k d c (repeat_at keys k) refl; found = p.found }
    where
      go : (k : ℕ) → k < q → Classed cs (hash_of hash (keys k)) → (b : Bool) → repeat_at keys k ≡ b
          → repeat_at keys k ≡ false
      go k d c true e = let y = l.has k (omega (arith, p.within)) c e in p.new k d (record { classed = c; suspect = y.0; ending = y.1 })
      go k d c false e = e

  -- what a pass over the suspects finds is the first repeat of their classes
  pub suspects-first : (o : Result ℕ GaveUp) → PassedOr (Chosen cs hash tail u) keys n o → PassedOr (ClassedBy cs hash) keys n o
  suspects-first (Ok q) p = suspects-passed p
  suspects-first (Err e) p = tt

-- ---- the loop of `under_seed`: all the classes below lo

abbrev pub below : ℕ → Classes
below lo = record { lo = 0; hi = lo }

-- where each key is of the kind
all_first : {Kind : List ℕ → List ℕ → Type 0} {keys : ℕ → Key} {n q : ℕ} → ((x y : List ℕ) → Kind x y) → Passed Kind keys n q
    → FirstRepeat keys n q
all_first a p = record { within = p.within; new = λ k d. p.new k d (a _ _); found = p.found }

-- one pass over all classes, each key being a suspect
pub pass-first : (hash : List ℕ → List ℕ → ℕ) (keys : ℕ → Key) (n : ℕ) (tail : List ℕ → ℕ) (o : Result ℕ GaveUp)
    → PassedOr (Chosen (below 65536) hash tail (replicate 1 18446744073709551615)) keys n o → FirstOr keys n o
pass-first hash keys n tail (Ok q) p = all_first (λ x y. record { classed = record { low = omega arith; high = omega arith }; suspect = has_all _; ending = has_all _ }) p
pass-first hash keys n tail (Err e) p = tt
