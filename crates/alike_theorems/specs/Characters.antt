-- The characters of well-formed bytes and their encodings: each gives the other back.
use Rattle.std.specs.Prelude.{ℕ, suc, ◌+◌, ◌-◌, ◌*◌, ◌/◌, ◌%◌, ◌≤◌, ◌<◌, ◌≡◌, refl, true, List, [], ◌∷◌, ◌++◌}
use Rattle.std.proofs.Common.{sym, ap, ◌∙◌, ⊎_elim, append_assoc, arith}
use borrow.Author.Tests.{lt-ltb, le-ltb}
use Rattle.format.specs.Trace.{pick}
use Rattle.vob24.specs.Utf8.{well_formed, encode, Scalar, Encodes, none, more}
use Rattle.vob24.specs.Ranges.{lt-or-ge}
use Rattle.vob24_theorems.specs.Scalars.{well-formed-iff}
use Rattle.alike.specs.Decompositions.{scalars}

-- The encodings of these values, one after the other.
unfoldable pub encode_all : List ℕ → List ℕ
encode_all [] = []
encode_all (v ∷ vs) = encode v ++ encode_all vs

pub encode_all-append : (x y : List ℕ) → encode_all (x ++ y) ≡ encode_all x ++ encode_all y
unfolding encode_all
encode_all-append [] y = refl
encode_all-append (v ∷ x) y = ap (◌++◌ (encode v)) (encode_all-append x y) ∙ sym (append_assoc (encode v) (encode_all x) (encode_all y))

pub data AllScalar : List ℕ → Type 0 where
  done : AllScalar []
  also : {v : ℕ} {vs : List ℕ} → Scalar v → AllScalar vs → AllScalar (v ∷ vs)

-- ---- a sequence of one to four bytes is one character

module _ (t : List ℕ) where
  one : (b : ℕ) → b < 0x80 → scalars (b ∷ t) ≡ b ∷ scalars t
  unfolding scalars pick
  one b h = rw (lt-ltb b 0x80 h)

  two : (b c : ℕ) → 0x80 ≤ b → b < 0xe0 → scalars (b ∷ c ∷ t) ≡ ((b - 0xc0) * 64 + (c - 0x80)) ∷ scalars t
  unfolding scalars pick
  two b c h k = rw (le-ltb b 0x80 h, lt-ltb b 0xe0 k)

  three : (b c d : ℕ) → 0xe0 ≤ b → b < 0xf0
      → scalars (b ∷ c ∷ d ∷ t) ≡ (((b - 0xe0) * 64 + (c - 0x80)) * 64 + (d - 0x80)) ∷ scalars t
  unfolding scalars pick
  three b c d h k = rw (le-ltb b 0x80 (omega arith), le-ltb b 0xe0 h, lt-ltb b 0xf0 k)

  four : (b c d f : ℕ) → 0xf0 ≤ b
      → scalars (b ∷ c ∷ d ∷ f ∷ t) ≡ ((((b - 0xf0) * 64 + (c - 0x80)) * 64 + (d - 0x80)) * 64 + (f - 0x80)) ∷ scalars t
  unfolding scalars pick
  four b c d f h = rw (le-ltb b 0x80 (omega arith), le-ltb b 0xe0 (omega arith), le-ltb b 0xf0 h)

-- the bytes of an encoding, by their number
pub data Encoded (v : ℕ) : Type 0 where
  in1 : v < 0x80 → encode v ≡ v ∷ [] → Encoded v
  in2 : 0x80 ≤ v → v < 0x800 → encode v ≡ (0xc0 + v / 64) ∷ (0x80 + v % 64) ∷ [] → Encoded v
  in3 : 0x800 ≤ v → v < 0x10000 → encode v ≡ (0xe0 + v / 4096) ∷ (0x80 + v / 64 % 64) ∷ (0x80 + v % 64) ∷ [] → Encoded v
  in4 : 0x10000 ≤ v
      → encode v ≡ (0xf0 + v / 262144) ∷ (0x80 + v / 4096 % 64) ∷ (0x80 + v / 64 % 64) ∷ (0x80 + v % 64) ∷ [] → Encoded v

pub encoded : (v : ℕ) → Encoded v
encoded v =
    ⊎_elim (λ a. in1 a (rw (lt-ltb v 0x80 a))) (λ a.
    ⊎_elim (λ b. in2 a b (rw (le-ltb v 0x80 a, lt-ltb v 0x800 b))) (λ b.
    ⊎_elim (λ c. in3 b c (rw (le-ltb v 0x80 a, le-ltb v 0x800 b, lt-ltb v 0x10000 c))) (λ c. in4 c (rw (le-ltb v 0x80 a, le-ltb v 0x800 b, le-ltb v 0x10000 c)))
    (lt-or-ge v 0x10000)) (lt-or-ge v 0x800)) (lt-or-ge v 0x80)

-- ---- the characters of encodings

pub scalars-encode : (v : ℕ) (t : List ℕ) → scalars (encode v ++ t) ≡ v ∷ scalars t
scalars-encode v t = go (encoded v)
  where
    go : Encoded v → scalars (encode v ++ t) ≡ v ∷ scalars t
    go (in1 h e) = rw e (one t v h)
    go (in2 h k e) =
        let r : (0xc0 + v / 64 - 0xc0) * 64 + (0x80 + v % 64 - 0x80) ≡ v = omega arith in
        rw e (two t (0xc0 + v / 64) (0x80 + v % 64) (omega arith) (omega arith) ∙ rw r)
    go (in3 h k e) =
        let r : ((0xe0 + v / 4096 - 0xe0) * 64 + (0x80 + v / 64 % 64 - 0x80)) * 64 + (0x80 + v % 64 - 0x80) ≡ v = omega arith in
        rw e (three t (0xe0 + v / 4096) (0x80 + v / 64 % 64) (0x80 + v % 64) (omega arith) (omega arith) ∙ rw r)
    go (in4 h e) =
        let p : v / 4096 ≡ v / 262144 * 64 + v / 4096 % 64 = omega arith in
        let q : v / 64 ≡ v / 4096 * 64 + v / 64 % 64 = omega arith in
        let r : (((0xf0 + v / 262144 - 0xf0) * 64 + (0x80 + v / 4096 % 64 - 0x80)) * 64 + (0x80 + v / 64 % 64 - 0x80)) * 64 + (0x80 + v % 64 - 0x80) ≡ v = omega arith in
        rw e (four t (0xf0 + v / 262144) (0x80 + v / 4096 % 64) (0x80 + v / 64 % 64) (0x80 + v % 64) (omega arith) ∙ rw r)

pub scalars-encode_all : (vs : List ℕ) → scalars (encode_all vs) ≡ vs
unfolding scalars encode_all
scalars-encode_all [] = refl
scalars-encode_all (v ∷ vs) = scalars-encode v (encode_all vs) ∙ ap (◌∷◌ v) (scalars-encode_all vs)

pub encoded-well-formed : {vs : List ℕ} → AllScalar vs → well_formed (encode_all vs) ≡ true
unfolding encode_all
encoded-well-formed {vs} a = (well-formed-iff (encode_all vs)).1 (go a)
  where
    go : {vs : List ℕ} → AllScalar vs → (n : ℕ) × Encodes n (encode_all vs)
    go done = (0, none)
    go (also {v = v} s r) = let e = go r in (suc e.0, more v s e.1)

-- ---- the encodings of characters

pub record Decoded (bs : List ℕ) : Type 0 where
  pub all : AllScalar (scalars bs)
  pub back : encode_all (scalars bs) ≡ bs

pub decoded : (bs : List ℕ) → well_formed bs ≡ true → Decoded bs
unfolding scalars encode_all
decoded bs h = go ((well-formed-iff bs).0 h).1
  where
    go : {n : ℕ} {bs : List ℕ} → Encodes n bs → Decoded bs
    go none = record { all = done; back = refl }
    go (more v {t = t} s r) =
        let c = go r in
        let e = scalars-encode v t in
        record { all = rw e (also s c.all); back = rw e (ap (◌++◌ (encode v)) c.back) }

-- names of the same characters have the same bytes
pub scalars-equal : (x y : List ℕ) → well_formed x ≡ true → well_formed y ≡ true → scalars x ≡ scalars y → x ≡ y
scalars-equal x y h k e = sym (decoded x h).back ∙ ap encode_all e ∙ (decoded y k).back
