-- The laws of an extern count: none, or host calls.
use Rattle.std.specs.Prelude.{ℕ, ◌≡◌, List, Ok, Err}
use Rattle.format.specs.Trace.{wrong, refused}
use Rattle.format.specs.Format.{number, count, ask, leaf, seq}
use Rattle.vob24.specs.Refusals.{host_calls, vector}
use Rattle.vob24.specs.Leaves.{free}
use Rattle.vob24.specs.Questions.{no_host_calls}
use Rattle.reader.specs.Contract.{told, Reader, NumberOf, Step, Read}
use Rattle.reader.specs.declared.Cursor.{Cursor}
use Rattle.reader.specs.declared.Refusal.{Refusal}
use Rattle.reader.proofs.Laws.{at-step, number_then, got-ready}
use Rattle.reader.proofs.Asks.{agree, differ}

module _ {z : ℕ} {s : List ℕ} {c d : Cursor} {q : Read ℕ} {n : ℕ} {r : Step} {t t₁ : List ℕ} (y : r ≡ Ok c) (e : q ≡ Ok (n, d)) (h : NumberOf (leaf (count free 1 vector z)) number s c t q t₁) where
  pub externs-none : n ≡ 0 → Reader (seq (leaf (count free 1 vector z)) (λ v. leaf (ask (no_host_calls (number v))))) s r t (Ok d) t₁
  externs-none i = at-step y (number_then (λ n. leaf (ask (no_host_calls n))) e h (agree n 0 (wrong host_calls n) (got-ready e h) i))

  pub externs-some : {x : Refusal} → (n ≡ 0 → ⊥) → told x ≡ refused (wrong host_calls n) d.place d.left
      → Reader (seq (leaf (count free 1 vector z)) (λ v. leaf (ask (no_host_calls (number v))))) s r t (Err x) t₁
  externs-some i j = at-step y (number_then (λ n. leaf (ask (no_host_calls n))) e h (differ n 0 (wrong host_calls n) (got-ready e h) i j))
