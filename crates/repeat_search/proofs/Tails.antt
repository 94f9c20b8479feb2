-- The laws of a name's last bytes: what the code reads is what the definition says, and folding leaves it.
use Rattle.std.proofs.Common.{ℕ, ◌&&◌, suc, zero, ◌+◌, ◌-◌, ◌*◌, ◌/◌, ◌%◌, ◌≤◌, ◌<◌, ◌≡◌, refl, sym, ◌∙◌, List, [], ◌∷◌, Bool, true, false, arith, eqb, ltb, length, get_or, lt-ltb, le-ltb, ltb-true}
use Rattle.std.proofs.lemmas.Bool.{eqb-false}
use Rattle.std.specs.List.{list_all}
use Rattle.format.specs.Trace.{pick}
use Rattle.format.specs.Reading.{little, part}
use Rattle.folding.specs.Bytes.{fold_of, fold_bytes}
use Rattle.folding.specs.Letters.{letter-of}
use Rattle.in_place.specs.declared.Table.{Table}
use Rattle.in_place.specs.declared.Table.TheVariants.{Fields, Methods, Identities, Alike}
use Rattle.in_place.specs.Items.{text_at}
use Rattle.in_place.specs.Tables.{key_text}
use Rattle.in_place.specs.Contract.{TextAt, WordIs}
use Rattle.in_place.proofs.Texts.{piece, text-room, text-part, text-length}
use Rattle.repeat_search.specs.Hashes.{ended, tail_from, tail_of, tail_hash, lows}
use Rattle.repeat_search.specs.Tables.{keys_at, TextTail, Standing}
use Rattle.repeat_search.proofs.Tables.{standing-name}
use Rattle.repeat_search.proofs.Marks.{word_bytes}

-- ---- by the bytes themselves

-- fewer than four since one that is not ASCII
tail-short : (k w : ℕ) (x : List ℕ) → k + length x < 4 → tail_from k w x ≡ 0
unfolding tail_from pick
tail-short k w [] h = rw (lt-ltb k 4 (omega arith))
tail-short k w (b ∷ x) h = go (ltb b 128) (tail-short (k + 1) (w / 256 + 16777216 * b) x (omega arith)) (tail-short 0 0 x (omega arith))
  where
    go : (t : Bool) {y z : ℕ} → y ≡ 0 → z ≡ 0 → pick t y z ≡ 0
    go true e f = e
    go false e f = f

-- in a word of four bytes the bytes before them are shifted out
shifted : (w a b c d : ℕ) → w < 4294967296
    → (((w / 256 + 16777216 * a) / 256 + 16777216 * b) / 256 + 16777216 * c) / 256 + 16777216 * d
    ≡ a + 256 * (b + 256 * (c + 256 * (d + 256 * 0)))
shifted w a b c d h = omega arith

tail-four : (k w a b c d : ℕ) → w < 4294967296
    → tail_from k w (a ∷ b ∷ c ∷ d ∷ []) ≡ pick (lows (a ∷ b ∷ c ∷ d ∷ [])) (little (a ∷ b ∷ c ∷ d ∷ [])) 0
unfolding tail_from lows little pick
tail-four k w a b c d h = go (ltb a 128) refl
  where
    last : (t : Bool) → ltb a 128 ≡ true → ltb b 128 ≡ true → ltb c 128 ≡ true → ltb d 128 ≡ t
        → tail_from k w (a ∷ b ∷ c ∷ d ∷ []) ≡ pick (lows (a ∷ b ∷ c ∷ d ∷ [])) (little (a ∷ b ∷ c ∷ d ∷ [])) 0
    last true e f g i = rw (e, f, g, i, le-ltb (k + 1 + 1 + 1 + 1) 4 (omega arith)) (shifted w a b c d h)
    last false e f g i = rw (e, f, g, i)

    third : (t : Bool) → ltb a 128 ≡ true → ltb b 128 ≡ true → ltb c 128 ≡ t
        → tail_from k w (a ∷ b ∷ c ∷ d ∷ []) ≡ pick (lows (a ∷ b ∷ c ∷ d ∷ [])) (little (a ∷ b ∷ c ∷ d ∷ [])) 0
    third true e f g = last (ltb d 128) e f g refl
    third false e f g = rw (e, f, g) (tail-short 0 0 (d ∷ []) (omega arith))

    second : (t : Bool) → ltb a 128 ≡ true → ltb b 128 ≡ t
        → tail_from k w (a ∷ b ∷ c ∷ d ∷ []) ≡ pick (lows (a ∷ b ∷ c ∷ d ∷ [])) (little (a ∷ b ∷ c ∷ d ∷ [])) 0
    second true e f = third (ltb c 128) e f refl
    second false e f = rw (e, f) (tail-short 0 0 (c ∷ d ∷ []) (omega arith))

    go : (t : Bool) → ltb a 128 ≡ t
        → tail_from k w (a ∷ b ∷ c ∷ d ∷ []) ≡ pick (lows (a ∷ b ∷ c ∷ d ∷ [])) (little (a ∷ b ∷ c ∷ d ∷ [])) 0
    go true e = second (ltb b 128) e refl
    go false e = rw e (tail-short 0 0 (b ∷ c ∷ d ∷ []) (omega arith))

-- the last four of m + 4 bytes
tail-end : (s : List ℕ) (m at k w : ℕ) → at + (m + 4) ≤ length s → w < 4294967296
    → tail_from k w (part s at (m + 4)) ≡ pick (lows (part s (at + m) 4)) (little (part s (at + m) 4)) 0
unfolding tail_from pick
tail-end s zero at k w r h =
    let i : at + 0 ≡ at = omega arith in
    rw (i, word_bytes s at (omega arith)) (tail-four k w (get_or s at 0) (get_or s (at + 1) 0) (get_or s (at + 1 + 1) 0) (get_or s (at + 1 + 1 + 1) 0) h)
tail-end s (suc m) at k w r h =
    let j : suc m + 4 - 1 ≡ m + 4 = omega arith in
    let i : at + suc m ≡ at + 1 + m = omega arith in
    rw (piece s at (suc m + 4) (omega arith) r, j, i)
    (go (ltb (get_or s at 0) 128) refl (λ e. tail-end s m (at + 1) (k + 1) (w / 256 + 16777216 * get_or s at 0) (omega arith) (omega (arith, ltb-true (get_or s at 0) 128 e))) (tail-end s m (at + 1) 0 0 (omega arith) (omega arith)))
  where
    go : (t : Bool) → ltb (get_or s at 0) 128 ≡ t → {y z v : ℕ} → (ltb (get_or s at 0) 128 ≡ true → y ≡ v) → z ≡ v → pick t y z ≡ v
    go true e f g = f e
    go false e f g = g

-- the answer of `ascii`
pub lows-all : (x : List ℕ) → list_all (λ b. ltb b 128) x ≡ lows x
unfolding lows pick
lows-all [] = refl
lows-all (b ∷ x) = go (ltb b 128) (lows-all x)
  where
    go : (t : Bool) {y z : Bool} → y ≡ z → (t && y) ≡ pick t z false
    go true e = e
    go false e = refl

-- the answers of `tail`
module _ {s : List ℕ} {p n : ℕ} (h : TextAt s p) (e : WordIs s p n) where
  pub tail-few : n < 4 → TextTail s p 0
  tail-few l = record { is = sym (tail-short 0 0 (text_at s p) (omega (arith, text-length h e))) }

  module _ (l : 4 ≤ n) where
    last-four : tail_of (text_at s p) ≡ pick (lows (part s (p + n) 4)) (little (part s (p + n) 4)) 0
    last-four =
        let i : n - 4 + 4 ≡ n = omega arith in
        let j : p + 4 + (n - 4) ≡ p + n = omega arith in
        rw (text-part h e) (rw (i, j) at (tail-end s (n - 4) (p + 4) 0 0 (omega (arith, text-room h e)) (omega arith)))

    module _ {q : Bool} (w : q ≡ lows (part s (p + n) 4)) where
      pub tail-ascii : {v : ℕ} → q ≡ true → WordIs s (p + n) v → TextTail s p v
      unfolding pick
      tail-ascii t x = record { is = x.is ∙ sym (last-four ∙ rw (sym w ∙ t)) }

      pub tail-other : q ≡ false → TextTail s p 0
      unfolding pick
      tail-other t = record { is = sym (last-four ∙ rw (sym w ∙ t)) }

-- the answer of `hash_tail`
pub tail-hashed : (seed : ℕ) {s : List ℕ} {p x y z : ℕ} → TextTail s p x → y ≡ x → z ≡ ended seed y
    → z ≡ tail_hash seed (text_at s p)
unfolding tail_hash
tail-hashed seed w e f = f ∙ rw (e, w.is)

-- ---- of folded bytes

either : (z : Bool) (y : ℕ) → pick z y y ≡ y
unfolding pick
either true y = refl
either false y = refl

-- folding leaves the last bytes
tail-folded : (k w : ℕ) (x : List ℕ) → tail_from k w (fold_bytes x) ≡ tail_from k w x
unfolding fold_bytes tail_from pick
tail-folded k w [] = refl
tail-folded k w (b ∷ []) = refl
tail-folded k w (b ∷ c ∷ t) = go (eqb (fold_of b c) 0) refl (tail-folded (k + 1) (w / 256 + 16777216 * b) (c ∷ t)) (tail-folded 0 0 (c ∷ t)) (tail-folded 0 0 t)
  where
    go : (z : Bool) → eqb (fold_of b c) 0 ≡ z
        → tail_from (k + 1) (w / 256 + 16777216 * b) (fold_bytes (c ∷ t)) ≡ tail_from (k + 1) (w / 256 + 16777216 * b) (c ∷ t)
        → tail_from 0 0 (fold_bytes (c ∷ t)) ≡ tail_from 0 0 (c ∷ t)
        → tail_from 0 0 (fold_bytes t) ≡ tail_from 0 0 t
        → tail_from k w (fold_bytes (b ∷ c ∷ t)) ≡ tail_from k w (b ∷ c ∷ t)
    go true e f g h = rw (e, f, g)
    go false e f g h = let o = letter-of b c (eqb-false _ _ e) in rw (e, le-ltb b 128 (omega (arith, o.lead)), le-ltb c 128 o.last.0, le-ltb (fold_of b c % 256) 128 o.mark, h) (either (ltb (fold_of b c / 256) 128) _)

key-tail : (t : Table) (s : List ℕ) (p : ℕ) → tail_of (key_text t s p) ≡ tail_of (text_at s p)
key-tail Fields s p = refl
key-tail (Methods i) s p = refl
key-tail Identities s p = refl
key-tail (Alike i) s p = tail-folded 0 0 (text_at s p)

pub standing-tail : (seed : ℕ) {t : Table} {s : List ℕ} {from i p : ℕ} → Standing t s from i p
    → tail_hash seed (keys_at t s from i).name ≡ tail_hash seed (text_at s p)
unfolding tail_hash
standing-tail seed {t} {s} {p = p} h = rw (standing-name h, key-tail t s p)
