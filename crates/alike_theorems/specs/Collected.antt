-- What is collected from the values that a format reads: a property of such lists is that of the parts' lists.
use Prim.Native.Nat.{ℕ, suc, zero, ◌≤◌}
use Rattle.std.specs.Prelude.{◌≡◌, Bool, get_or, T, eqb}
use Rattle.std.proofs.Common.{subst, eqb→eq}
use mathlib.Core.List.{List, [], ◌++◌, flat_map}
use Rattle.std.proofs.Math.Bool.{true, false}
use Rattle.format.specs.Trace.{pick, Ends}
use Rattle.format.specs.Format.{Value, number, first, second, Rule, count, Format, empty, leaf, seq, chain, items, entries}
use Rattle.format.specs.Reading.{trace}
use Rattle.format.proofs.TraceTheorems.{seq-ends, trace-within}
use Rattle.vob24.specs.Refusals.{vector}
use Rattle.vob24.specs.Leaves.{list_of, choose}

-- A property of a list collected from the file s between two places: nothing has it, wider places keep it, and lists
-- one after the other have it together.
pub record Joined {A : Type 0} (P : List ℕ → ℕ → List A → ℕ → Type 0) : Type 0 where
  pub nothing : {s : List ℕ} {p q : ℕ} → p ≤ q → P s p [] q
  pub wider : {s : List ℕ} {p r q : ℕ} {l : List A} → p ≤ r → P s r l q → P s p l q
  pub longer : {s : List ℕ} {p r q : ℕ} {l : List A} → P s p l r → r ≤ q → P s p l q
  pub append : {s : List ℕ} {p r q : ℕ} {l m : List A} → P s p l r → P s r m q → P s p (l ++ m) q

-- What is collected from the values of f has the property.
pub record Collects {A : Type 0} (P : List ℕ → ℕ → List A → ℕ → Type 0) (f : Format) (from : Value → List A) : Type 0 where
  pub has : (s : List ℕ) (p : ℕ) {v : Value} {q : ℕ} → Ends (trace f s p) v q → P s p (from v) q

-- an equal list
pub in-equal : {A : Type 0} {P : List ℕ → ℕ → List A → ℕ → Type 0} {f : Format} {N M : Value → List A}
    → ((v : Value) → N v ≡ M v) → Collects P f N → Collects P f M
in-equal {P = P} e a = record { has = λ s p {v} {q} h. subst (λ l. P s p l q) (e v) (a.has s p h) }

module _ {A : Type 0} {P : List ℕ → ℕ → List A → ℕ → Type 0} (j : Joined P) where
  pub in-none : (f : Format) → Collects P f (λ _. [])
  in-none f = record { has = λ s p h. j.nothing (trace-within f s p h).0 }

  -- a sequence: from its first part, from its second, from both
  pub in-first : {f : Format} {g : Value → Format} {N : Value → List A} → Collects P f N
      → Collects P (seq f g) (λ v. N (first v))
  in-first {f} {g} a = record {
    has = λ s p {v} h.
        let r = seq-ends f g s p h in
        j.longer (a.has s p r.fore) (trace-within (g (first v)) s r.mid r.back).0;
  }

  pub in-second : {f : Format} {g : Value → Format} {N : Value → Value → List A} → ((v : Value) → Collects P (g v) (N v))
      → Collects P (seq f g) (λ v. N (first v) (second v))
  in-second {f} {g} a = record {
    has = λ s p {v} h.
        let r = seq-ends f g s p h in
        j.wider (trace-within f s p r.fore).0 ((a (first v)).has s r.mid r.back);
  }

  pub in_both : {f : Format} {g : Value → Format} {N M : Value → List A} → Collects P f N
      → ((v : Value) → Collects P (g v) M) → Collects P (seq f g) (λ v. N (first v) ++ M (second v))
  in_both {f} {g} a b = record {
    has = λ s p {v} h.
        let r = seq-ends f g s p h in
        j.append (a.has s p r.fore) ((b (first v)).has s r.mid r.back);
  }

  -- the items of a list, each by the state that the ones before it left
  module _ {S : Type 0} (f : S → Format) (u : S → Value → S) {N : Value → List A}
      (each : (x : S) → Collects P (f x) N) where
    in-items : (x : S) (n : ℕ) → Collects P (chain f u x n) (λ v. flat_map N (items n v))
    unfolding chain items flat_map
    in-items x zero = in-none empty
    in-items x (suc n) = in_both (each x) (λ v. in-items (u x v) n)

    pub in_list : (r : Rule) (m c z : ℕ) (x : S)
        → Collects P (seq (leaf (count r m c z)) (λ n. chain f u x (number n))) (λ v. flat_map N (entries v))
    in_list r m c z x = in-second (λ n. in-items x (number n))

  pub in-list_of : {f : Format} {N : Value → List A} → Collects P f N → (r : Rule) (z : ℕ)
      → Collects P (list_of r z f) (λ v. flat_map N (entries v))
  in-list_of {f} a r z = in_list (λ _. f) (λ _ _. tt) (λ _. a) r 1 vector z tt

  -- a variant: from the part of the tag k
  pub in_variant : (r : Rule) (fs : List Format) (k : ℕ) {N : Value → List A} → Collects P (get_or fs k empty) N
      → Collects P (choose r fs) (λ v. pick (eqb (number (first v)) k) (N (second v)) [])
  unfolding pick
  in_variant r fs k {N} a = in-second (λ tag. go (number tag) (eqb (number tag) k) (eqb→eq (number tag) k))
    where
      go : (n : ℕ) (d : Bool) → (T d → n ≡ k) → Collects P (get_or fs n empty) (λ v. pick d (N v) [])
      go n true e = let same = e tt in rw same a
      go n false e = in-none (get_or fs n empty)
