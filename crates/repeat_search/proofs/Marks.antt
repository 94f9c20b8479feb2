-- The laws of marks, and the loop that compares the items whose mark is not new.
use Rattle.std.proofs.Common.{ℕ, suc, zero, ◌+◌, ◌-◌, ◌*◌, ◌≤◌, ◌<◌, ◌≡◌, refl, ap, sym, ◌∙◌, List, [], ◌∷◌, Bool, false, arith, length, get_or, bit_and, bit_or, below_more}
use Rattle.std.proofs.lemmas.Nat.{and_or_self}
use Rattle.format.specs.Reading.{little, part}
use Rattle.in_place.specs.declared.Item.{Item}
use Rattle.in_place.specs.declared.Table.{Table}
use Rattle.in_place.specs.declared.Table.TheVariants.{Fields, Methods, Identities, Alike}
use Rattle.in_place.specs.Tables.{format_in}
use Rattle.in_place.specs.Contract.{TextAt, WordIs, Past, Items}
use Rattle.in_place.proofs.Texts.{piece, text-part, text-length}
use Rattle.in_place.proofs.Walking.{Walking, walking_start, walking-next}
use Rattle.repeat_search.specs.Keys.{repeat_at}
use Rattle.repeat_search.specs.Tables.{keys_at, mark_in, TextMark, MarkIs, FoldedHash, Standing}
use Rattle.repeat_search.specs.Marks.{bit, mark_of, streamed_mark, Marked}
use Rattle.repeat_search.proofs.Bits.{bits-stay}
use Rattle.repeat_search.proofs.Keys.{repeat-none}
use Rattle.repeat_search.proofs.Tables.{walking-stands, standing-text, standing-name}
use Rattle.repeat_search.proofs.Hashes.{byte-in}

-- ---- a text's mark

pub word_bytes : (s : List ℕ) (p : ℕ) → p + 4 ≤ length s
    → part s p 4 ≡ get_or s p 0 ∷ get_or s (p + 1) 0 ∷ get_or s (p + 1 + 1) 0 ∷ get_or s (p + 1 + 1 + 1) 0 ∷ []
word_bytes s p f = rw (piece s p 4 (omega arith) f, piece s (p + 1) 3 (omega arith) (omega arith), piece s (p + 1 + 1) 2 (omega arith) (omega arith), piece s (p + 1 + 1 + 1) 1 (omega arith) (omega arith))

-- the last byte of a text; the length's, which is 0, where the text is empty
last_byte : (n : ℕ) {s : List ℕ} {p : ℕ} → TextAt s p → WordIs s p n
    → get_or s (p + 3 + n) 0 ≡ get_or (part s (p + 4) n) (n - 1) 0
unfolding little
last_byte zero {s} {p} h e =
    let x : little (part s p 4) ≡ get_or s p 0 + 256 * (get_or s (p + 1) 0 + 256 * (get_or s (p + 1 + 1) 0 + 256 * get_or s (p + 1 + 1 + 1) 0)) = ap little (word_bytes s p (omega (arith, h.room))) ∙ omega arith in
    let i : p + 3 + 0 ≡ p + 1 + 1 + 1 = omega arith in
    rw i (omega (arith, x, e.is))
last_byte (suc n) {s} {p} h e =
    let i : p + 3 + suc n ≡ p + 4 + (suc n - 1) = omega arith in
    rw i (sym (byte-in s (p + 4) (suc n) (suc n - 1) (omega arith)))

pub text-mark : {s : List ℕ} {p n b q : ℕ} → TextAt s p → WordIs s p n → b ≡ get_or s (p + 3 + n) 0 → q ≡ bit (n + b)
    → TextMark s p q
unfolding mark_of
text-mark {s} {p} {n} h e i j = record { is = j ∙ rw (i, text-length h e, text-part h e, last_byte n h e) }

-- the answers of `mark`
pub mark-read : (t : Table) {s : List ℕ} {p q : ℕ} → ((i : Item) → t ≡ Alike i → ⊥) → TextMark s p q → MarkIs t s p q
mark-read Fields n w = record { is = w.is }
mark-read (Methods i) n w = record { is = w.is }
mark-read Identities n w = record { is = w.is }
mark-read (Alike i) n w = absurd (n i refl)

pub mark-alike : {t : Table} {s : List ℕ} {p q h : ℕ} {i : Item} → t ≡ Alike i → FoldedHash 2654435761 s p h → q ≡ bit h
    → MarkIs t s p q
unfolding streamed_mark
mark-alike e w i = rw e (record { is = i ∙ rw w.is })

-- ---- the marks of the keys before
module _ {t : Table} {s : List ℕ} {from i p m q : ℕ} (w : Standing t s from i p) (l : Marked (mark_in t) (keys_at t s from) i m) (e : MarkIs t s p q) where
  mark-at : q ≡ mark_in t (keys_at t s from i).name
  mark-at = e.is ∙ ap (mark_in t) (sym (standing-name w))

  pub mark-new : (bit_and m q ≡ q → ⊥) → false ≡ repeat_at (keys_at t s from) i
  mark-new h = sym (repeat-none (keys_at t s from) i (λ k d x y. h (let z : q ≡ mark_in t (keys_at t s from k).name = mark-at ∙ ap (mark_in t) x in rw z (l.has k d))))

  pub marked_more : Marked (mark_in t) (keys_at t s from) (i + 1) (bit_or m q)
  marked_more = record { has = below_more _ i (λ k d. bits-stay m q (mark_in t (keys_at t s from k).name) (l.has k d)) (let z = mark-at in rw (← z) (and_or_self q m)) }

-- ---- the loop of `scan`
pub record Scanning (t : Table) (s : List ℕ) (from n p i m : ℕ) : Type 0 where
  pub walk : Walking (format_in t) s from n p i
  pub marked : Marked (mark_in t) (keys_at t s from) i m
  pub new : (k : ℕ) → k < i → repeat_at (keys_at t s from) k ≡ false

module _ {t : Table} {s : List ℕ} {from n : ℕ} where
  pub scanning-start : Items (format_in t) n s from → Scanning t s from n from 0 0
  scanning-start h = record { walk = walking_start h; marked = record { has = λ k d. absurd (omega arith) }; new = λ k d. absurd (omega arith) }

  module _ {p i m : ℕ} (l : Scanning t s from n p i m) where
    module _ (h : i < n) where
      pub scanning-text : TextAt s p
      scanning-text = standing-text {t = t} (walking-stands h l.walk)

      pub scanning-asks : {q : ℕ} → MarkIs t s p q → Standing t s from i p × Marked (mark_in t) (keys_at t s from) i m × MarkIs t s p q
      scanning-asks e = (walking-stands h l.walk, l.marked, e)

      module _ {b : Bool} (e : b ≡ repeat_at (keys_at t s from) i) where
        pub scanning-more : {q z : ℕ} → b ≡ false → MarkIs t s p q → Past (format_in t) s p z
            → Scanning t s from n z (i + 1) (bit_or m q)
        scanning-more r g w =
            record { walk = walking-next h l.walk w; marked = marked_more (walking-stands h l.walk) l.marked g; new = below_more _ i l.new (sym e ∙ r) }

      -- an item whose mark is new
      scanning-new : {q z : ℕ} → MarkIs t s p q → (bit_and m q ≡ q → ⊥) → Past (format_in t) s p z
          → Scanning t s from n z (i + 1) (bit_or m q)
      scanning-new e d w = scanning-more (mark-new (walking-stands h l.walk) l.marked e d) refl e w

      -- by the text's own mark
      pub scanning-read : {q z : ℕ} → ((x : Item) → t ≡ Alike x → ⊥) → TextMark s p q → (bit_and m q ≡ q → ⊥)
          → Past (format_in t) s p z → Scanning t s from n z (i + 1) (bit_or m q)
      scanning-read r e = scanning-new (mark-read t r e)
