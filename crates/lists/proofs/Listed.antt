-- The laws of lists of any entries: their loop, and what stands before it.
use Rattle.std.specs.Prelude.{ℕ, ◌-◌, ◌<◌, ◌≡◌, List, Bool, length, Ok, Err}
use Rattle.std.specs.Result.{IsErrAnd}
use Rattle.std.proofs.Common.{refl}
use Rattle.format.specs.Format.{number, Rule, count, Format, leaf, seq, times}
use Rattle.reader.specs.Contract.{Step, Read, Reader, NumberOf}
use Rattle.reader.specs.Accepted.{Accepted}
use Rattle.reader.specs.declared.Cursor.{Cursor}
use Rattle.reader.specs.declared.Refusal.{Refusal}
use Rattle.reader.proofs.Errors.{handed}
use Rattle.reader.proofs.Laws.{Turns, turns_more, turns-refused, number_then}
use Rattle.reader.proofs.Accepting.{accepted-part}

module _ {f : Format} {s t₀ : List ℕ} {r₀ : Step} {n k : ℕ} {t : List ℕ} {b : Cursor} (h : 0 < k) (l : Turns f s t₀ r₀ n t (Ok b) k) where
  pub turns_next : {q : Step} {d : Cursor} {t₁ : List ℕ} → q ≡ Ok d → Reader f s (Ok b) t q t₁ → length t₁ ≡ length t
      → Turns f s t₀ r₀ n t₁ (Ok d) (k - 1)
  turns_next e a j = turns_more h l (rw e at a) j

  pub turns-up : {q p : Step} {x : Refusal} {t₁ : List ℕ} → q ≡ Err x → IsErrAnd p (λ y. y ≡ x) → Reader f s (Ok b) t q t₁
      → Reader (times f n) s r₀ t₀ p t₁
  turns-up {p = p} e i a = rw (handed p i) (turns-refused h l (rw e at a) refl)

  pub turns-accepted : {z : Bool} → Accepted z (times f n) s r₀ → Accepted z f s (Ok b)
  turns-accepted = accepted-part (λ x k. turns-refused h l k refl)

-- what stands behind a count
pub accepted-entries : {z : Bool} {ρ : Rule} {m k y : ℕ} (f : Format) {s : List ℕ} {c d : Cursor} {q : Read ℕ} {n : ℕ} {t t₁ : List ℕ}
    → q ≡ Ok (n, d) → NumberOf (leaf (count ρ m k y)) number s c t q t₁
    → Accepted z (seq (leaf (count ρ m k y)) (λ v. times f (number v))) s (Ok c) → Accepted z (times f n) s (Ok d)
accepted-entries f e h = accepted-part (λ x k. number_then (λ n. times f n) e h k)
