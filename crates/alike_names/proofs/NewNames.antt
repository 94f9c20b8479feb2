-- The methods of a named type, each with its question behind it: they stand as items of `method`, and their names are
-- new.
use Rattle.std.proofs.Common.{ℕ, suc, zero, ◌≡◌, refl, ap, sym, ◌∙◌, subst, List, map}
use Rattle.format.specs.Trace.{out, Ends}
use Rattle.format.specs.Format.{Value, content, first, Ask, ask, leaf, chain, items}
use Rattle.format.specs.Reading.{trace_leaf, trace}
use Rattle.format.proofs.TraceTheorems.{ask-ends, seq-ends}
use Rattle.vob24.specs.Refusals.{duplicate_named_method}
use Rattle.vob24.specs.Fields.{new_method_of}
use Rattle.vob24.specs.Questions.{refuse_if, among, repeat}
use Rattle.vob24.specs.Grammar.{method, method_name, new_method, also_seen}
use Rattle.in_place.specs.Walk.{Stands, value_at, next_at, items_at, last_at, AllStand, stand}
use Rattle.alike_theorems.specs.NewNames.{AllNew, methods-new}

record MethodStands (s : List ℕ) (p : ℕ) (w : Value) (q : ℕ) : Type 0 where
  stands : Stands method s p
  value : value_at method s p ≡ first w
  next : q ≡ next_at method s p

abbrev question : List (List ℕ) → Value → List Ask
question seen v = refuse_if (among (content (method_name v)) seen) (repeat duplicate_named_method 0 (method_name v))

method-stands : (seen : List (List ℕ)) {s : List ℕ} {p : ℕ} {w : Value} {q : ℕ} → Ends (trace (new_method seen) s p) w q
    → MethodStands s p w q
unfolding new_method trace trace_leaf
method-stands seen {s} {p} {w} {q} h =
    let b = seq-ends method (λ v. leaf (ask (question seen v))) s p h in
    let a = stand b.fore in
    let e = ask-ends (question seen (first w)) b.mid b.back in
    record { stands = a.stands; value = a.value; next = e.2 ∙ sym a.next }

-- n of them from p on: items of `method`, whose names are new
pub record MethodsStand (seen : List (List ℕ)) (n : ℕ) (s : List ℕ) (p : ℕ) (v : Value) (q : ℕ) : Type 0 where
  pub all : AllStand method n s p
  pub names : map (λ m. method_name (new_method_of m).method) (items n v) ≡ map method_name (items_at method n s p)
  pub last : q ≡ last_at method n s p
  pub new : AllNew seen (map method_name (items_at method n s p))

pub methods-stand : (seen : List (List ℕ)) (n : ℕ) (s : List ℕ) (p : ℕ) {v : Value} {q : ℕ}
    → Ends (trace (chain new_method also_seen seen n) s p) v q → MethodsStand seen n s p v q
unfolding chain items items_at last_at AllStand trace out
methods-stand seen zero s p h = record { all = tt; names = refl; last = cc; new = methods-new seen zero s p h }
methods-stand seen (suc n) s p {v} {q} h =
    let b = seq-ends (new_method seen) (λ w. chain new_method also_seen (also_seen seen w) n) s p h in
    let a = method-stands seen b.fore in
    let r = methods-stand (also_seen seen (first v)) n s b.mid b.back in
    let e : map (λ m. method_name (new_method_of m).method) (items (suc n) v) ≡ map method_name (items_at method (suc n) s p) =
    rw (a.value, ← a.next, r.names) in
    record {
      all = (a.stands, rw a.next at r.all);
      names = e;
      last = r.last ∙ ap (last_at method n s) a.next;
      new = subst (AllNew seen) e (methods-new seen (suc n) s p h);
    }
