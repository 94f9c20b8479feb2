-- The laws of lists that hand out their count, and then of the questions on their entries.
use Rattle.std.proofs.Common.{Ok, Err, ℕ, ◌≡◌, refl, List}
use Rattle.std.specs.Result.{IsErrAnd}
use Rattle.format.specs.Format.{Value, first, entries, counted, Rule, Ask, ask, Format, leaf, seq}
use Rattle.vob24.specs.Leaves.{list_of}
use Rattle.reader.specs.Contract.{ReadyAt, Reads, takes, refuses, Reader, got, lost, NumberOf, Follows, Step, Read}
use Rattle.reader.specs.declared.Cursor.{Cursor}
use Rattle.reader.specs.declared.Refusal.{Refusal}
use Rattle.reader.proofs.Errors.{handed}
use Rattle.reader.proofs.Laws.{takes-ends, then-takes, got_of}
use Rattle.reader.proofs.Asks.{asks-reads, follow_then}
use Rattle.in_place.specs.Contract.{ListBehind, ListAsked}
use Rattle.in_place.proofs.Following.{list-here, list-follows}

module _ {ρ : Rule} {z : ℕ} {s : List ℕ} {c d : Cursor} {q : Read ℕ} {n : ℕ} {t t₁ : List ℕ} (e : q ≡ Ok (n, d)) where
  list-reader : (f : Format) → NumberOf (list_of ρ z f) counted s c t q t₁
      → Reader (list_of ρ z f) s (Ok c) t (Ok d) t₁
  list-reader f h = let g = got_of e h in record { reads = takes g.takes; ready = g.ready }

  module _ {f : Format} where
    pub list_behind : ReadyAt s c → NumberOf (list_of ρ z f) counted s c t q t₁ → ListBehind f s (Ok c) (Ok d)
    list_behind r h = list-here r (list-reader f h)

    module _ {l : List Value → List Ask} {r : Step} (h : NumberOf (list_of ρ z f) counted s c t q t₁) (a : ListAsked f l s (Ok c) (Ok d) r) where
      pub list_reads : Reader (seq (list_of ρ z f) (λ v. leaf (ask (l (entries v))))) s (Ok c) t r t₁
      list_reads = follow_then (list-reader f h) (list-follows a)

      pub list_asked : {b : Cursor} → r ≡ Ok b
          → NumberOf (seq (list_of ρ z f) (λ v. leaf (ask (l (entries v))))) (λ v. counted (first v)) s c t (Ok (n, b)) t₁
      list_asked {b} i =
          let w : Follows (list_of ρ z f) (λ v. l (entries v)) s (Ok c) (Ok d) r = list-follows a in
          let g = got_of e h in
          go (rw i at (asks-reads {s = s} {t = t₁} (w.asks c d g.value refl refl (takes-ends g.takes)))) (rw i at list_reads.ready)
        where
          go : Reads (leaf (ask (l (entries (got_of e h).value)))) s (Ok d) t₁ (Ok b) t₁ → ReadyAt s b
              → NumberOf (seq (list_of ρ z f) (λ v. leaf (ask (l (entries v))))) (λ v. counted (first v)) s c t (Ok (n, b)) t₁
          go (takes y) j = let g = got_of e h in record { reads = got g.is (then-takes g.takes y); ready = j }

      pub list_denied : {p : Read ℕ} {x : Refusal} → r ≡ Err x → IsErrAnd p (λ y. y ≡ x)
          → NumberOf (seq (list_of ρ z f) (λ v. leaf (ask (l (entries v))))) (λ v. counted (first v)) s c t p t₁
      list_denied {p} {x} i j = rw (handed p j) (go (rw i at list_reads.reads))
        where
          go : Reads (seq (list_of ρ z f) (λ v. leaf (ask (l (entries v))))) s (Ok c) t (Err x) t₁
              → NumberOf (seq (list_of ρ z f) (λ v. leaf (ask (l (entries v))))) (λ v. counted (first v)) s c t (Err x) t₁
          go (refuses y) = record { reads = lost y; ready = tt }
