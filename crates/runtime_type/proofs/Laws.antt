-- The laws of runtime types: their lists' places, their records.
use Rattle.std.specs.Prelude.{ℕ, suc, zero, ◌+◌, ◌-◌, ◌*◌, ◌≡◌, List, get_or, Ok, Err, Some, None}
use Rattle.std.specs.Result.{IsErrAnd}
use Rattle.std.proofs.Common.{refl, ap, arith}
use Rattle.format.specs.Format.{Value, number, first, second, counted, byte, fixed, word, Rule, Format, empty, leaf, seq, ◌▸◌}
use Rattle.vob24.specs.Refusals.{invalid_packed_value_rttid}
use Rattle.vob24.specs.Settings.{Settings}
use Rattle.vob24.specs.Leaves.{packed_word, choose}
use Rattle.vob24.specs.Grammar.{rttids}
use Rattle.reader.specs.Contract.{NumberOf, Read}
use Rattle.reader.specs.Recorded.{RecordOf, recorded, unrecorded, no_list}
use Rattle.reader.specs.declared.Cursor.{Cursor}
use Rattle.reader.specs.declared.Refusal.{Refusal}
use Rattle.reader.specs.declared.ListAt.{ListAt}
use Rattle.reader.proofs.Errors.{handed}
use Rattle.reader.proofs.Parts.{choose_at}
use Rattle.reader.proofs.Recording.{record_lost, record_not, lost_here, lost_last, lost_then, list-place, variant_at}
use Rattle.runtime_type.specs.declared.RuntimeType.{RuntimeType}
use Rattle.runtime_type.specs.Records.{optional_of, listed_at, two_of, past_rttids, RuntimeTypeRecord}

-- rttids take four bytes each
pub rttids-place : (set : Settings) {s : List ℕ} {c d : Cursor} {q : Read ℕ} {n : ℕ} {t t₁ : List ℕ} → q ≡ Ok (n, d)
    → NumberOf (rttids set) counted s c t q t₁ → d.place ≡ c.place + 4 + 4 * n
rttids-place set e h = omega (arith, list-place word (packed_word invalid_packed_value_rttid) e h)

-- ---- the records of lists

pub listed : {k : RuntimeType} {i : ListAt} {p q n : ℕ} → i ≡ record { start = p + 4; count = n } → p ≡ q
    → ◌≡◌ {A = RuntimeTypeRecord} (record { kind = k; first = i; second = no_list }) (listed_at k q n)
listed e h = rw (e, h)

pub listed_two : {k : RuntimeType} {i j : ListAt} {p q p' m n : ℕ} → i ≡ record { start = p + 4; count = m }
    → j ≡ record { start = q + 4; count = n } → p ≡ p' → q ≡ past_rttids p m
    → ◌≡◌ {A = RuntimeTypeRecord} (record { kind = k; first = i; second = j }) (two_of k p' m n)
listed_two e i h y = rw (e, i, y, h)

-- ---- the other answers

-- a record's part was not got: nothing is said
module _ {f : Format} {of : Value → ℕ} {s : List ℕ} {c : Cursor} {q : Read ℕ} {t t₁ : List ℕ} {R : Type 0} {rec : ℕ → Value → R} {p : Read R} {x : Refusal} (e : q ≡ Err x) (i : IsErrAnd p (λ y. y ≡ x)) (h : NumberOf f of s c t q t₁) where
  -- the last
  pub lost_only : RecordOf f rec s c t p t₁
  lost_only = record_lost refl i (lost_last e refl h)

  -- one that has others after it
  pub lost_first : {g : Value → Format} → RecordOf (seq f g) rec s c t p t₁
  lost_first = record_lost refl i (lost_here e refl h)

-- the second
pub lost_second : {f₁ f₂ : Format} {of₁ of₂ : Value → ℕ} {s : List ℕ} {c d : Cursor} {q₁ q₂ : Read ℕ} {n : ℕ} {t t₁ t₂ : List ℕ} {R : Type 0} {rec : ℕ → Value → R} {p : Read R} {x : Refusal}
    → q₁ ≡ Ok (n, d) → NumberOf f₁ of₁ s c t q₁ t₁ → q₂ ≡ Err x → IsErrAnd p (λ y. y ≡ x) → NumberOf f₂ of₂ s d t₁ q₂ t₂
    → RecordOf (f₁ ▸ f₂) rec s c t p t₂
lost_second e h k i j = record_lost refl i (lost_then e h (λ _. lost_last k refl j))

-- by the tag
pub variant_record : {ρ : Rule} (fs : List Format) (rs : ℕ → Value → List RuntimeTypeRecord) (o : RuntimeTypeRecord) (k : ℕ) {s : List ℕ} {c d : Cursor} {q : Read ℕ} {n : ℕ} {p : Read RuntimeTypeRecord} {t t₁ t₂ : List ℕ}
    → q ≡ Ok (n, d) → n ≡ k → NumberOf (leaf (fixed byte ρ)) number s c t q t₁
    → RecordOf (get_or fs k empty) (λ p v. get_or (rs p v) k o) s d t₁ p t₂
    → RecordOf (choose ρ fs) (λ p v. get_or (rs (p + 1) (second v)) (number (first v)) o) s c t p t₂
variant_record fs rs o k e i h (recorded m) = recorded (variant_at fs rs o k e i h m)
variant_record fs rs o k e i h (unrecorded m) = unrecorded (choose_at fs k refl e i h m)

pub id-absent : (n : ℕ) → n ≡ 0 → None ≡ optional_of n
unfolding optional_of
id-absent n e = rw e

pub id-there : (n : ℕ) → (n ≡ 0 → ⊥) → Some (n - 1) ≡ optional_of n
unfolding optional_of
id-there zero h = absurd (h refl)
id-there (suc n) h = let e : suc n - 1 ≡ n = omega arith in rw e

-- what a record is made into
pub record_made : {X : Type 0} {f : Format} {of : ℕ → Value → X} {s : List ℕ} {c d : Cursor} {q : Read X} {x : X} {y : RuntimeTypeRecord} {t t₁ : List ℕ} (make : X → RuntimeTypeRecord)
    → q ≡ Ok (x, d) → y ≡ make x → RecordOf f of s c t q t₁ → RecordOf f (λ p v. make (of p v)) s c t (Ok (y, d)) t₁
record_made {X} {f} {of} {s} {c} {d} {q} {x} {y} {t} {t₁} make e i h = rw i (go (rw e at h))
  where
    go : RecordOf f of s c t (Ok (x, d)) t₁ → RecordOf f (λ p v. make (of p v)) s c t (Ok (make x, d)) t₁
    go (recorded k) = recorded (record { reader = k.reader; is = λ b v j m. ap make (k.is b v j m) })

pub record_unmade : {X : Type 0} {f : Format} {of : ℕ → Value → X} {rec : ℕ → Value → RuntimeTypeRecord} {s : List ℕ} {c : Cursor} {q : Read X} {p : Read RuntimeTypeRecord} {x : Refusal} {t t₁ : List ℕ}
    → q ≡ Err x → IsErrAnd p (λ y. y ≡ x) → RecordOf f of s c t q t₁ → RecordOf f rec s c t p t₁
record_unmade {p = p} {x = x} e i h = rw (handed p i) (unrecorded (record_not e refl h))
