-- The laws of constants: the answer is that of the value that was read.
use Rattle.std.specs.Prelude.{ℕ, ◌%◌, ◌/◌, ◌≡◌, List, ℤ, eqb, get_or, Ok, Err}
use Rattle.std.specs.Float.{binary64}
use Rattle.std.specs.Float.Ieee.{Float, of_bits}
use Rattle.std.specs.Int.{w64}
use Rattle.std.specs.Result.{IsErrAnd}
use Rattle.std.proofs.Common.{refl, ap, sym, arith, to_z, of_z}
use Rattle.std.proofs.lemmas.Int.{of_z-to_z}
use Rattle.format.specs.Format.{Value, number, long, Format, empty}
use Rattle.format.proofs.TraceTheorems.{part_length}
use Rattle.vob24.specs.Leaves.{u64, bool, str}
use Rattle.vob24.specs.Grammar as vob
use Rattle.fields.specs.Fields.{constant_tag}
use Rattle.reader.specs.Contract.{ReadyAt, refuses, NumberOf, SpanOf, ReadsSpan, lost_span, KeptPair, Read, span_at, bits_of}
use Rattle.reader.specs.Leaves.{Fetches, there, short, FetchesSigned, signed, short_signed, FetchesFloat, float, short_float}
use Rattle.reader.specs.declared.Cursor.{Cursor}
use Rattle.reader.specs.declared.Refusal.{Refusal}
use Rattle.reader.specs.declared.Span.{Span}
use Rattle.reader.specs.declared.Bits.{Bits}
use Rattle.reader.specs.Recorded.{RecordOf, recorded, unrecorded}
use Rattle.reader.proofs.Errors.{handed}
use Rattle.reader.proofs.Laws.{got-ready, number_then}
use Rattle.reader.proofs.Leaves.{fetched, below}
use Rattle.reader.proofs.Parts.{span_of, tag-most-bare}
use Rattle.reader.proofs.Keeping.{fixed-lost, long_kept}
use Rattle.reader.proofs.Recording.{record_lost, lost_here, lost_last, recorded_empty, recorded_value, recorded_then, recorded_last}
use Rattle.constants.specs.declared.answers.Constant.{Constant}
use Rattle.constants.specs.Constants.{constant_format, constant_of, constant_by, bool_of, int_of, float_of, text_of}

-- ---- what stands behind the tag

module _ {R : Type 0} {f : Format} {s : List ℕ} {c : Cursor} {t t₁ : List ℕ} where
  pub number-unread : {of : ℕ → Value → R} {of' : Value → ℕ} {q : Read ℕ} {p : Read R} {x : Refusal} → q ≡ Err x
      → IsErrAnd p (λ y. y ≡ x) → NumberOf f of' s c t q t₁ → RecordOf f of s c t p t₁
  number-unread e i h = record_lost refl i (lost_last e refl h)

  pub span-unread : {of : ℕ → Value → R} {q : Read Span} {p : Read R} {x : Refusal} → q ≡ Err x
      → IsErrAnd p (λ y. y ≡ x) → SpanOf f s c t q t₁ → RecordOf f of s c t p t₁
  span-unread {of} {q} {p} {x} e i h = rw (handed p i) (go (rw e at h.reads))
    where
      go : ReadsSpan f s c t (Err x) t₁ → RecordOf f of s c t (Err x) t₁
      go (lost_span h) = unrecorded (record { reads = refuses h; ready = tt })

  number-record : (g : ℕ → R) {q : Read ℕ} {n : ℕ} {d : Cursor} → q ≡ Ok (n, d) → NumberOf f number s c t q t₁
      → RecordOf f (λ p v. g (number v)) s c t (Ok (g n, d)) t₁
  number-record g e h = recorded (recorded_last e h (λ n _. g n) refl)

pub bool-record : {f : Format} {s : List ℕ} {c : Cursor} {t t₁ : List ℕ} {q : Read ℕ} {n : ℕ} {d : Cursor} → q ≡ Ok (n, d)
    → NumberOf f number s c t q t₁ → RecordOf f (λ _ v. bool_of v) s c t (Ok (Constant.Bool (eqb n 1), d)) t₁
bool-record e h = number-record (λ n. Constant.Bool (eqb n 1)) e h

pub text-record : {f : Format} {s : List ℕ} {c : Cursor} {t t₁ : List ℕ} {q : Read Span} {p n : ℕ} {d : Cursor}
    → q ≡ Ok (span_at p n, d) → SpanOf f s c t q t₁
    → RecordOf f (λ _ v. text_of v) s c t (Ok (Constant.Text (span_at p n), d)) t₁
text-record {s = s} {p = p} {n = n} e h =
    let k = span_of e h in
    recorded (recorded_value k.ready k.takes (ap (λ m. Constant.Text (span_at p m)) (sym (part_length s p n k.room))))

-- a signed number is a number of its bits, and so is a float
module _ {s : List ℕ} {c d : Cursor} {n : ℕ} where
  signed-bits : {q : Read (Bits ℤ)} {i : ℤ} → q ≡ Ok (bits_of i n, d) → FetchesSigned s c q
      → (Fetches 8 s c (Ok (n, d))) × (i ≡ to_z w64 n)
  signed-bits {q} {i} e h = go (rw e at h)
    where
      go : FetchesSigned s c (Ok (bits_of i n, d)) → (Fetches 8 s c (Ok (n, d))) × (i ≡ to_z w64 n)
      go (signed f k) = (there f, k)

  float-bits : {q : Read (Bits Float)} {y : Float} → q ≡ Ok (bits_of y n, d) → FetchesFloat s c q
      → (Fetches 8 s c (Ok (n, d))) × (y ≡ of_bits binary64 n)
  float-bits {q} {y} e h = go (rw e at h)
    where
      go : FetchesFloat s c (Ok (bits_of y n, d)) → (Fetches 8 s c (Ok (n, d))) × (y ≡ of_bits binary64 n)
      go (float f k) = (there f, k)

  module _ (a : ReadyAt s c) where
    module _ {t t₁ : List ℕ} {g : Cursor} where
      -- a signed number in an enum stands for its bits
      pub int-record : {q : Read (Bits ℤ)} {i : ℤ} → q ≡ Ok (bits_of i n, d) → FetchesSigned s c q
          → KeptPair d (n % 4294967296) (n / 4294967296) t g t₁
          → RecordOf u64 (λ p v. int_of v) s c t (Ok (Constant.Int (to_z w64 (of_z w64 i)), g)) t₁
      int-record e h k =
          let b = signed-bits e h in
          rw (b.1, of_z-to_z w64 n (below (fetched refl b.0))) (number-record (λ n. Constant.Int (to_z w64 n)) refl (long_kept a refl b.0 k))

      pub float-record : {q : Read (Bits Float)} {y : Float} → q ≡ Ok (bits_of y n, d) → FetchesFloat s c q
          → KeptPair d (n % 4294967296) (n / 4294967296) t g t₁
          → RecordOf u64 (λ p v. float_of v) s c t (Ok (Constant.Float y, g)) t₁
      float-record e h k = let b = float-bits e h in rw b.1 (number-record (λ n. Constant.Float (of_bits binary64 n)) refl (long_kept a refl b.0 k))

module _ {R : Type 0} {of : ℕ → Value → R} {s : List ℕ} {c : Cursor} {t t₁ : List ℕ} {p : Read R} {x : Refusal} where
  bits-unread : Fetches 8 s c (Err x) → IsErrAnd p (λ y. y ≡ x) → RecordOf u64 of s c t p t₁
  bits-unread h i = number-unread {of' = number} refl i (fixed-lost long refl refl h)

  pub signed-unread : {q : Read (Bits ℤ)} → q ≡ Err x → IsErrAnd p (λ y. y ≡ x) → FetchesSigned s c q
      → RecordOf u64 of s c t p t₁
  signed-unread {q} e i h = go (rw e at h)
    where
      go : FetchesSigned s c (Err x) → RecordOf u64 of s c t p t₁
      go (short_signed k) = bits-unread (short k) i

  pub float-unread : {q : Read (Bits Float)} → q ≡ Err x → IsErrAnd p (λ y. y ≡ x) → FetchesFloat s c q
      → RecordOf u64 of s c t p t₁
  float-unread {q} e i h = go (rw e at h)
    where
      go : FetchesFloat s c (Err x) → RecordOf u64 of s c t p t₁
      go (short_float k) = bits-unread (short k) i

-- ---- the tag, and what stands behind it
module _ {s : List ℕ} {c : Cursor} {q : Read ℕ} {t t₁ : List ℕ} (h : NumberOf constant_tag number s c t q t₁) where
  pub constant-unread : {p : Read Constant} {x : Refusal} → q ≡ Err x → IsErrAnd p (λ y. y ≡ x)
      → RecordOf constant_format constant_of s c t p t₁
  unfolding vob.constant
  constant-unread e i = record_lost refl i (lost_here e refl h)

  module _ (k : ℕ) {n : ℕ} {d : Cursor} (e : q ≡ Ok (n, d)) (i : n ≡ k) where
    constant-by : {p : Read Constant} {t₂ : List ℕ}
        → RecordOf (get_or vob.constant_variants k empty) (λ _ v. constant_by k v) s d t₁ p t₂
        → RecordOf constant_format constant_of s c t p t₂
    unfolding vob.constant
    constant-by (recorded m) = recorded (recorded_then e h (λ n. get_or vob.constant_variants n empty) (λ n _ v. constant_by n v) (rw i m))
    constant-by (unrecorded m) = unrecorded (number_then (λ n. get_or vob.constant_variants n empty) e h (rw i m))

  module _ {n : ℕ} {d : Cursor} (e : q ≡ Ok (n, d)) where
    pub constant-nil : n ≡ 0 → RecordOf constant_format constant_of s c t (Ok (Constant.Nil, d)) t₁
    unfolding constant_by
    constant-nil i = constant-by 0 e i (recorded (recorded_empty (got-ready e h) refl))

    module _ {p : Read Constant} {t₂ : List ℕ} where
      pub constant-bool : n ≡ 1 → RecordOf bool (λ _ v. bool_of v) s d t₁ p t₂
          → RecordOf constant_format constant_of s c t p t₂
      unfolding constant_by
      constant-bool i m = constant-by 1 e i m

      pub constant-int : n ≡ 2 → RecordOf u64 (λ _ v. int_of v) s d t₁ p t₂
          → RecordOf constant_format constant_of s c t p t₂
      unfolding constant_by
      constant-int i m = constant-by 2 e i m

      pub constant-float : n ≡ 3 → RecordOf u64 (λ _ v. float_of v) s d t₁ p t₂
          → RecordOf constant_format constant_of s c t p t₂
      unfolding constant_by
      constant-float i m = constant-by 3 e i m

      -- the tags that are left
      pub constant-text : (n ≡ 0 → ⊥) → (n ≡ 1 → ⊥) → (n ≡ 2 → ⊥) → (n ≡ 3 → ⊥)
          → RecordOf str (λ _ v. text_of v) s d t₁ p t₂ → RecordOf constant_format constant_of s c t p t₂
      unfolding constant_by
      constant-text i j k l m = let a = tag-most-bare e h in constant-by 4 e (omega arith) m
