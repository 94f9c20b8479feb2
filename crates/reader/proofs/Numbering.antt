-- The laws of lists that hand out their count.
use Rattle.std.specs.Prelude.{ℕ, ◌≡◌, List, Ok, Err}
use Rattle.std.specs.Result.{IsErrAnd}
use Rattle.format.specs.Format.{Value, number, counted, Rule, count, Format, leaf, seq, times}
use Rattle.vob24.specs.Refusals.{vector}
use Rattle.vob24.specs.Leaves.{list_of}
use Rattle.reader.specs.Contract.{Step, Read, ReadyAt, Refuses, Reads, takes, refuses, Reader, ReadsOf, got, lost, NumberOf}
use Rattle.reader.specs.declared.Cursor.{Cursor}
use Rattle.reader.specs.declared.Refusal.{Refusal}
use Rattle.reader.proofs.Errors.{handed}
use Rattle.reader.proofs.Laws.{then-takes, then-refuses, seq-refuses, got_of}

refused_number : {f : Format} {of : Value → ℕ} {s : List ℕ} {c : Cursor} {t t₁ : List ℕ} {p : Read ℕ} {x : Refusal}
    → IsErrAnd p (λ y. y ≡ x) → Refuses f s c x → NumberOf f of s c t p t₁
refused_number {p = p} i a = rw (handed p i) (record { reads = lost a; ready = tt })

-- the first part was not got
pub numbered_not : {f : Format} {g : Value → Format} {of of' : Value → ℕ} {s : List ℕ} {c : Cursor} {q p : Read ℕ} {x : Refusal} {t t₁ t₂ : List ℕ}
    → q ≡ Err x → IsErrAnd p (λ y. y ≡ x) → NumberOf f of s c t q t₁ → NumberOf (seq f g) of' s c t p t₂
numbered_not {f} {g} {of} {of'} {s} {c} {q} {p} {x} {t} {t₁} {t₂} e i h = go (rw e at h.reads)
  where
    go : ReadsOf f of s c t (Err x) t₁ → NumberOf (seq f g) of' s c t p t₂
    go (lost a) = refused_number i (seq-refuses a)

module _ {ρ : Rule} {z : ℕ} {s : List ℕ} {c d : Cursor} {q : Read ℕ} {n : ℕ} {r : Step} {t t₁ t₂ : List ℕ} (e : q ≡ Ok (n, d)) (h : NumberOf (leaf (count ρ 1 vector z)) number s c t q t₁) where
  -- its items
  pub numbered_items : (f : Format) {b : Cursor} → r ≡ Ok b → Reader (times f n) s (Ok d) t₁ r t₂
      → NumberOf (list_of ρ z f) counted s c t (Ok (n, b)) t₂
  numbered_items f {b} i a = go (rw i at a.reads) (rw i at a.ready)
    where
      go : Reads (times f n) s (Ok d) t₁ (Ok b) t₂ → ReadyAt s b → NumberOf (list_of ρ z f) counted s c t (Ok (n, b)) t₂
      go (takes y) j = let g = got_of e h in record { reads = got g.is (then-takes g.takes (rw g.is at y)); ready = j }

  pub numbered_refused : (f : Format) {p : Read ℕ} {x : Refusal} → r ≡ Err x → IsErrAnd p (λ y. y ≡ x) → Reader (times f n) s (Ok d) t₁ r t₂
      → NumberOf (list_of ρ z f) counted s c t p t₂
  numbered_refused f {p} {x} i j a = go (rw i at a.reads)
    where
      go : Reads (times f n) s (Ok d) t₁ (Err x) t₂ → NumberOf (list_of ρ z f) counted s c t p t₂
      go (refuses y) = let g = got_of e h in refused_number j (then-refuses g.takes (rw g.is at y))
