-- The laws of select cases: their record by the tag.
use Rattle.std.specs.Prelude.{ℕ, ◌≡◌, List, [], ◌∷◌, Ok}
use Rattle.std.proofs.Common.{arith, get_or}
use Rattle.format.specs.Format.{Value, number, Format, empty}
use Rattle.vob24.specs.Grammar.{select_case, select_variants}
use Rattle.fields.specs.Fields.{select_tag}
use Rattle.reader.specs.Contract.{NumberOf, Step, Read}
use Rattle.reader.specs.declared.Cursor.{Cursor}
use Rattle.reader.specs.Recorded.{Recorded, RecordOf, recorded, unrecorded}
use Rattle.reader.proofs.Errors.{apart}
use Rattle.reader.proofs.Parts.{tag-most-bare}
use Rattle.reader.proofs.Recording.{variant_at, record_on}
use Rattle.select_case.specs.Records.{send_of, recv_of, select_of}
use Rattle.select_case.specs.declared.SelectCase.{SelectCase}
use Rattle.select_case.specs.declared.SelectCase.TheVariants.{Send}

-- ---- by the tag

pub select_at : (k : ℕ) {s : List ℕ} {c d : Cursor} {q : Read ℕ} {n : ℕ} {p : Read SelectCase} {t t₁ t₂ : List ℕ}
    → q ≡ Ok (n, d) → n ≡ k → NumberOf select_tag number s c t q t₁
    → RecordOf (get_or select_variants k empty) (λ p v. get_or (send_of p v ∷ recv_of p v ∷ []) k (Send 0 0 0)) s d t₁ p t₂
    → RecordOf select_case select_of s c t p t₂
unfolding select_case select_of
select_at k e i h m = record_on (Send 0 0 0) (λ _ _. variant_at select_variants (λ p v. send_of p v ∷ recv_of p v ∷ []) (Send 0 0 0) k e i h) m

-- a select case that is not 0 is 1
pub select-one : {s : List ℕ} {c d : Cursor} {q : Read ℕ} {n : ℕ} {t t₁ : List ℕ} → q ≡ Ok (n, d) → (n ≡ 0 → ⊥)
    → NumberOf select_tag number s c t q t₁ → n ≡ 1
select-one e i h = let j = tag-most-bare e h in omega arith
