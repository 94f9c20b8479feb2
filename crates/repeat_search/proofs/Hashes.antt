-- The laws of the hash: what the words and bytes that are read come to.
use Rattle.std.proofs.Common.{ℕ, suc, zero, ◌+◌, ◌-◌, ◌*◌, ◌/◌, ◌^◌, ◌≤◌, ◌<◌, ◌≡◌, refl, ap, sym, ◌∙◌, List, [], ◌∷◌, Bool, false, arith, mul-le-mul, length, get_or, take, drop, take-take, drop-drop, get_or-take, get_or-drop, bit_xor, lt-ltb, le-ltb, eq-eqb, ne_eqb}
use lib.Seq.{take-nil}
use lib.Bits.{xor_zero_l}
use Rattle.format.specs.Trace.{pick}
use Rattle.format.specs.Reading.{little, part}
use Rattle.format.proofs.TraceTheorems.{part_length}
use Rattle.vob24.specs.Utf8.{in?}
use Rattle.in_place.specs.declared.Item.{Item}
use Rattle.in_place.specs.declared.Table.{Table}
use Rattle.in_place.specs.declared.Table.TheVariants.{Fields, Methods, Identities, Alike}
use Rattle.in_place.specs.Items.{text_at}
use Rattle.in_place.specs.Tables.{format_in, key_text, package_text}
use Rattle.in_place.specs.Contract.{TextAt, WordIs, Placed}
use Rattle.in_place.proofs.Texts.{text-room, text-part}
use Rattle.in_place.proofs.Keys.{key-name, key-package}
use Rattle.repeat_search.specs.Hashes.{mixed, folded, second_seed, word_in, short_hash, lanes_hash, bytes_hash, text_hash, stream_hash, ended, plain_hash, streamed_hash, PartAt, JoinIs, HashIs, TakenIn, Streams}
use Rattle.folding.specs.Bytes.{head_fold, fold_bytes}
use Rattle.folding.specs.declared.Letter.{Letter}
use Rattle.folding.specs.FoldLaws.{fold-nil}
use Rattle.folding.specs.Contract.{span, LetterAt}
use Rattle.folding.proofs.Folded.{plain-first, folded-stays, letter-room, folded-letter}
use Rattle.repeat_search.specs.Tables.{key_hash, TextHash, EndedHash, FoldedHash, PackageHash, KeyHash}

-- ---- a turn stays below 2 ^ 64

product-fits : (x a : ℕ) → x < 4294967296 → a < 4294967296 → x * a ≤ 4294967295 * 4294967295
product-fits x a h k = mul-le-mul {n₁ = x} {m₁ = a} {n₂ = 4294967295} {m₂ = 4294967295} (omega arith) (omega arith)

pub halves-fit : (x a : ℕ) → x < 4294967296 → a < 4294967296 → x * a < 2 ^ 64
halves-fit x a h k = go _ (product-fits x a h k)
  where
    go : (m : ℕ) → m ≤ 18446744065119617025 → m < 2 ^ 64
    go m a = omega arith

-- ---- the bytes and words of a part

pub byte-in : (s : List ℕ) (p k j : ℕ) → j < k → get_or (part s p k) j 0 ≡ get_or s (p + j) 0
byte-in s p k j h = get_or-take k (drop p s) j 0 h ∙ get_or-drop p s j 0

drop-part : (j k : ℕ) (x : List ℕ) → drop j (take k x) ≡ take (k - j) (drop j x)
drop-part zero k x = let e : k - 0 ≡ k = omega arith in rw e
drop-part (suc j) zero x = let e : 0 - suc j ≡ 0 = omega arith in rw e
drop-part (suc j) (suc k) [] = sym (take-nil (suc k - suc j))
drop-part (suc j) (suc k) (b ∷ x) = let e : suc k - suc j ≡ k - j = omega arith in rw e (drop-part j k x)

-- the word at j, which stands at q
word-in : (s : List ℕ) (p k j q : ℕ) → j + 4 ≤ k → p + j ≡ q → word_in (part s p k) j ≡ little (part s q 4)
unfolding word_in
word-in s p k j q h e = ap little (ap (take 4) (drop-part j k (drop p s)) ∙ take-take 4 (k - j) (drop j (drop p s)) (omega arith) ∙ ap (take 4) (drop-drop j p s ∙ ap (λ m. drop m s) e))

-- ---- fewer than eight bytes
module _ (seed : ℕ) {s : List ℕ} {start n : ℕ} (f : PartAt s start n) where
  short-bytes : (h : ℕ) → n < 8 → bytes_hash seed h (part s start n) ≡ short_hash seed h (part s start n)
  unfolding bytes_hash pick
  short-bytes h d = rw (part_length s start n f.room, lt-ltb n 8 d)

  module _ {h : ℕ} where
    pub short_none : n ≡ 0 → HashIs seed h (part s start n) h
    unfolding short_hash pick
    short_none e = record { is = sym (short-bytes h (omega arith) ∙ rw (part_length s start n f.room, eq-eqb n 0 e)) }

    pub short-three : {v₁ v₂ v₃ q : ℕ} → (n ≡ 0 → ⊥) → n < 4 → v₁ ≡ get_or s start 0 → v₂ ≡ get_or s (start + n / 2) 0
        → v₃ ≡ get_or s (start + n - 1) 0
        → q ≡ folded seed h (v₁ + 256 * v₂) v₃ → HashIs seed h (part s start n) q
    unfolding short_hash pick
    short-three d l x y z i =
        let m : start + (n - 1) ≡ start + n - 1 = omega arith in
        let o : start + 0 ≡ start = omega arith in
        record {
          is =
              i
              ∙ sym (short-bytes h (omega arith) ∙ rw (part_length s start n f.room, ne_eqb n 0 d, lt-ltb n 4 l, byte-in s start n 0 (omega arith), byte-in s start n (n / 2) (omega arith), byte-in s start n (n - 1) (omega arith), m, o, x, y, z));
        }

    pub short-words : {v w q : ℕ} → 4 ≤ n → n < 8 → WordIs s start v → WordIs s (start + n - 4) w
        → q ≡ folded seed h v w → HashIs seed h (part s start n) q
    unfolding short_hash pick
    short-words d l x y i =
        record {
          is = i
              ∙ sym (short-bytes h l ∙ rw (part_length s start n f.room, ne_eqb n 0 (λ e. omega arith), le-ltb n 4 d, word-in s start n 0 start (omega arith) (omega arith), word-in s start n (n - 4) (start + n - 4) (omega arith) (omega arith), x.is, y.is));
        }

-- ---- two lanes
lanes_bytes : (seed h : ℕ) (s : List ℕ) (start n : ℕ) → start + n ≤ length s → 8 ≤ n
    → bytes_hash seed h (part s start n) ≡ lanes_hash seed h h (part s start n) 0 ((n - 1) / 16)
unfolding bytes_hash pick
lanes_bytes seed h s start n f d = rw (part_length s start n f, le-ltb n 8 d)

-- the last block, whose first half stands at p
lanes-last : {seed g e : ℕ} {s : List ℕ} (start n j : ℕ) {p q : ℕ} → start + n ≤ length s → 8 ≤ n → p ≡ start + (n - 16)
    → JoinIs seed g e s p (start + n) q → lanes_hash seed g e (part s start n) j 0 ≡ q
unfolding lanes_hash
lanes-last {s = s} start n j {p} f d e i =
    rw (part_length s start n f, word-in s start n (n - 16) p (omega arith) (omega arith), word-in s start n (n - 16 + 4) (p + 4) (omega arith) (omega arith), word-in s start n (n - 8) (start + n - 8) (omega arith) (omega arith), word-in s start n (n - 4) (start + n - 4) (omega arith) (omega arith))
    (sym i.is)

pub joined : {seed b g e : ℕ} {s : List ℕ} {p end v₁ w₁ v₂ w₂ x y : ℕ} → WordIs s p v₁ → WordIs s (p + 4) w₁
    → WordIs s (end - 8) v₂ → WordIs s (end - 4) w₂ → b ≡ second_seed seed → x ≡ folded seed g v₁ w₁
    → y ≡ folded b e v₂ w₂
    → JoinIs seed g e s p end (bit_xor x y)
joined i₁ j₁ i₂ j₂ k x y = record { is = rw (x, y, k, i₁.is, j₁.is, i₂.is, j₂.is) }

pub lanes-joined : {seed h : ℕ} {s : List ℕ} {start n q : ℕ} → PartAt s start n → 8 ≤ n → n ≤ 16
    → JoinIs seed h h s start (start + n) q → HashIs seed h (part s start n) q
lanes-joined {seed} {h} {s} {start} {n} f d l i = let z : (n - 1) / 16 ≡ 0 = omega arith in record { is = sym (lanes_bytes seed h s start n f.room d ∙ rw z (lanes-last start n 0 f.room d (omega arith) i)) }

-- the loop of `hash_long`: i blocks were taken in
pub record Blocks (seed b h : ℕ) (s : List ℕ) (start n g e i : ℕ) : Type 0 where
  pub second : b ≡ second_seed seed
  pub room : start + n ≤ length s
  pub long : 16 < n
  pub leads : bytes_hash seed h (part s start n) ≡ lanes_hash seed g e (part s start n) (16 * i) ((n - 1) / 16 - i)

block : (seed g e : ℕ) (x : List ℕ) (j m : ℕ)
    → lanes_hash seed g e x j (suc m) ≡ lanes_hash seed (folded seed g (word_in x j) (word_in x (j + 4))) (folded (second_seed seed) e (word_in x (j + 8)) (word_in x (j + 12))) x (j + 16) m
unfolding lanes_hash
block seed g e x j m = refl

module _ {seed b h : ℕ} {s : List ℕ} {start n : ℕ} where
  pub blocks_start : PartAt s start n → b ≡ second_seed seed → 16 < n → Blocks seed b h s start n h h 0
  blocks_start f k l = let z : (n - 1) / 16 - 0 ≡ (n - 1) / 16 = omega arith in record { second = k; room = f.room; long = l; leads = lanes_bytes seed h s start n f.room (omega arith) ∙ rw z }

  module _ {g e i : ℕ} (l : Blocks seed b h s start n g e i) where
    pub blocks_more : {v₁ w₁ v₂ w₂ g' e' : ℕ} → i < (n - 1) / 16 → WordIs s (start + 16 * i) v₁ → WordIs s (start + 16 * i + 4) w₁
        → WordIs s (start + 16 * i + 8) v₂ → WordIs s (start + 16 * i + 12) w₂
        → g' ≡ folded seed g v₁ w₁ → e' ≡ folded b e v₂ w₂ → Blocks seed b h s start n g' e' (i + 1)
    blocks_more d i₁ j₁ i₂ j₂ x y =
        let k : (n - 1) / 16 - i ≡ suc ((n - 1) / 16 - (i + 1)) = omega arith in
        let j : 16 * i + 16 ≡ 16 * (i + 1) = omega arith in
        record {
          second = l.second;
          room = l.room;
          long = l.long;
          leads =
              l.leads
              ∙ ap (lanes_hash seed g e (part s start n) (16 * i)) k
              ∙ block seed g e (part s start n) (16 * i) ((n - 1) / 16 - (i + 1))
              ∙ rw (word-in s start n (16 * i) (start + 16 * i) (omega arith) (omega arith), word-in s start n (16 * i + 4) (start + 16 * i + 4) (omega arith) (omega arith), word-in s start n (16 * i + 8) (start + 16 * i + 8) (omega arith) (omega arith), word-in s start n (16 * i + 12) (start + 16 * i + 12) (omega arith) (omega arith), j, x, y, i₁.is, j₁.is, i₂.is, j₂.is, l.second);
        }

    pub blocks_end : {q : ℕ} → (n - 1) / 16 ≤ i → JoinIs seed g e s (start + n - 16) (start + n) q
        → HashIs seed h (part s start n) q
    blocks_end d k =
        let z : (n - 1) / 16 - i ≡ 0 = omega arith in
        record { is = sym (l.leads ∙ rw z (lanes-last start n (16 * i) l.room (omega (arith, l.long)) (omega (arith, l.long)) k)) }

-- ---- the hash of a text, and of a key

pub text-hash : {seed h g q : ℕ} {s : List ℕ} {p n : ℕ} → TextAt s p → WordIs s p n → g ≡ mixed seed h n
    → HashIs seed g (part s (p + 4) n) q → TextHash seed h s p q
unfolding text_hash
text-hash {seed} {h} {s = s} {p} {n} t e i l = record { is = l.is ∙ sym (rw (text-part t e, part_length s (p + 4) n (text-room t e), ← i)) }

-- no package has the hash of an empty one
empty-hash : (seed : ℕ) → text_hash seed 0 [] ≡ 0
unfolding text_hash bytes_hash short_hash pick
empty-hash seed = rw (xor_zero_l 0) (omega arith)

no-package : {seed q : ℕ} {s : List ℕ} {p : ℕ} → EndedHash seed 0 s p q → q ≡ plain_hash seed (text_at s p) []
unfolding plain_hash
no-package {seed} h = h.is ∙ sym (rw (empty-hash seed))

-- the answers of `hash_key`
module _ {seed : ℕ} {s : List ℕ} {p q : ℕ} where
  -- by the bytes of the key
  hash-by-bytes : {t : Table} → Placed (format_in t) s p → q ≡ key_hash t seed (key_text t s p) (package_text t s p)
      → KeyHash seed t s p q
  hash-by-bytes {t} w h = record { is = h ∙ sym (rw (key-name t w.stands, key-package t w.stands)) }

  pub hash-plain : (t : Table) → Placed (format_in t) s p → (t ≡ Identities → ⊥) → ((i : Item) → t ≡ Alike i → ⊥)
      → EndedHash seed 0 s p q → KeyHash seed t s p q
  hash-plain Fields w n a h = hash-by-bytes {t = Fields} w (no-package h)
  hash-plain (Methods i) w n a h = hash-by-bytes {t = Methods i} w (no-package h)
  hash-plain Identities w n a h = absurd (n refl)
  hash-plain (Alike i) w n a h = absurd (a i refl)

  module _ {t : Table} (w : Placed (format_in t) s p) where
    pub hash-identity : {g : ℕ} → t ≡ Identities → PackageHash seed s p g → EndedHash seed g s p q → KeyHash seed t s p q
    unfolding plain_hash
    hash-identity e k h = hash-by-bytes w (rw e (h.is ∙ rw k.is))

    pub hash-alike : {m : Item} → t ≡ Alike m → FoldedHash seed s p q → KeyHash seed t s p q
    unfolding streamed_hash
    hash-alike e h = hash-by-bytes w (rw e h.is)

-- ---- bytes that come one by one

stream-cons : (seed h b : ℕ) (bs : List ℕ) → stream_hash seed h (b ∷ bs) ≡ stream_hash seed (mixed seed h b) bs
unfolding stream_hash
stream-cons seed h b bs = refl

module _ {seed : ℕ} {s : List ℕ} {at end h : ℕ} (l : Streams s at end) where
  -- a byte that stays
  one-taken : {b x : ℕ} → fold_bytes (span s at end) ≡ get_or s at 0 ∷ fold_bytes (span s (at + 1) end) → b ≡ get_or s at 0
      → x ≡ mixed seed h b → TakenIn seed s at end h (record { hash = x; at = at + 1 })
  one-taken e i j =
      record {
        is = ap (stream_hash seed h) e ∙ stream-cons seed h (get_or s at 0) (fold_bytes (span s (at + 1) end)) ∙ rw (j, i);
        on = omega arith;
        within = omega (arith, l.some);
      }

  pub taken-plain : {b x : ℕ} {o : Bool} → o ≡ in? 0xc3 0xc5 (get_or s at 0) → o ≡ false → b ≡ get_or s at 0 → x ≡ mixed seed h b
      → TakenIn seed s at end h (record { hash = x; at = at + 1 })
  taken-plain i j = one-taken (plain-first s at end l.some l.room (sym i ∙ j))

  pub taken-stays : {b x : ℕ} → head_fold (span s at end) ≡ 0 → b ≡ get_or s at 0 → x ≡ mixed seed h b
      → TakenIn seed s at end h (record { hash = x; at = at + 1 })
  taken-stays z = one-taken (folded-stays s at end l.some l.room z)

  pub taken-letter : {f : Letter} {x y z : ℕ} → LetterAt s at end f → x ≡ mixed seed h f.base → y ≡ mixed seed x 204
      → z ≡ mixed seed y f.mark → TakenIn seed s at end h (record { hash = z; at = at + 2 })
  taken-letter {f} e i j k =
      record {
        is = ap (stream_hash seed h) (folded-letter s at end l.some l.room e)
            ∙ stream-cons seed h f.base _
            ∙ stream-cons seed (mixed seed h f.base) 204 _
            ∙ stream-cons seed (mixed seed (mixed seed h f.base) 204) f.mark _
            ∙ rw (k, j, i);
        on = omega arith;
        within = omega (arith, letter-room s at end l.some l.room e);
      }

-- the loop of `hash_folded`
pub record Streaming (seed : ℕ) (s : List ℕ) (p end at h : ℕ) : Type 0 where
  pub room : end ≤ length s
  pub within : at ≤ end
  pub leads : stream_hash seed seed (fold_bytes (text_at s p)) ≡ stream_hash seed h (fold_bytes (span s at end))

module _ {seed : ℕ} {s : List ℕ} {p end : ℕ} where
  module _ {at h : ℕ} (l : Streaming seed s p end at h) where
    pub streaming-done : {q : ℕ} → end ≤ at → q ≡ ended seed h → FoldedHash seed s p q
    unfolding streamed_hash stream_hash
    streaming-done z y =
        let e : end - at ≡ 0 = omega arith in
        record { is = y ∙ (sym (ap (ended seed) (l.leads ∙ ap (stream_hash seed h) (ap fold_bytes (ap (λ n. part s at n) e) ∙ fold-nil)))) }
