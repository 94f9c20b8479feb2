-- The laws by which a reader asks on the methods of a named type one by one.
use Rattle.std.proofs.Common.{Ok, Err, ℕ, suc, zero, ◌+◌, ◌-◌, ◌≤◌, ◌<◌, ◌≡◌, refl, ap, sym, ◌∙◌, List, [], Bool, true, false, not, arith, add-one, length, T, leb, leb→le}
use lib.Dec.{nleb→lt}
use Rattle.format.specs.Trace.{Wrong, pick, Ends}
use Rattle.format.specs.Format.{Value, content, first, ask, Format, leaf, seq, chain}
use Rattle.format.specs.Reading.{trace_leaf, trace}
use Rattle.format.specs.Layout.{clear}
use Rattle.format.proofs.TraceTheorems.{ask-ends, seq-ends}
use Rattle.vob24.specs.Questions.{refuse_if, among}
use Rattle.vob24.specs.Grammar.{method, method_name, new_method, also_seen}
use Rattle.reader.specs.Contract.{Ready, ReadyAt, Reads, takes, refuses, skips, Reader, ComesTo, Asks, Follows, Step}
use Rattle.reader.specs.declared.Cursor.{Cursor}
use Rattle.reader.specs.declared.Refusal.{Refusal}
use Rattle.reader.proofs.Laws.{takes-ends, then_reads, Chained, chained-start, chained_refused, chained-done}
use Rattle.reader.proofs.Asks.{follow_then}
use Rattle.in_place.specs.Walk.{Stands, value_at, next_at, last_at, stand, items-nil, stand-snoc, last_snoc}
use Rattle.in_place.specs.Contract.{Items}
use Rattle.in_place.proofs.Asking.{apart}
use Rattle.in_place.specs.declared.Item.TheVariants.{NamedMethod}
use Rattle.in_place.specs.declared.Table.TheVariants.{Methods as method_table}
use Rattle.repeat_search.specs.Keys.{repeat_at}
use Rattle.repeat_search.specs.Tables.{keys_at}
use Rattle.unique_names.specs.Asking.{seen_at, method_asks}
use Rattle.unique_names.specs.Contract.{MethodAsked}
use Rattle.unique_names.proofs.Lists.{method-repeat}

unseen : (s : List ℕ) (from : ℕ) → seen_at 0 s from ≡ []
unfolding seen_at
unseen s from = refl

seen_more : (i : ℕ) (s : List ℕ) (from : ℕ) {p : ℕ} (w : Value) → p ≡ last_at method i s from
    → value_at method s p ≡ first w → also_seen (seen_at i s from) w ≡ seen_at (i + 1) s from
unfolding seen_at
seen_more i s from w e x = rw (add-one i, ← e, x)

-- THE invariant of their loop: i methods have been read since r₀, which stands at `from`
pub record Methods (s t₀ : List ℕ) (r₀ : Step) (n from : ℕ) (t : List ℕ) (r : Step) (i : ℕ) : Type 0 where
  pub chained : Chained new_method also_seen s t₀ r₀ [] n t r (seen_at i s from) (n - i)
  pub items : Items method i s from
  pub here : (c : Cursor) → r ≡ Ok c → c.place ≡ last_at method i s from
  pub ready : Ready s r
  pub long : length t ≡ length t₀

module _ {s t₀ : List ℕ} {n : ℕ} where
  pub methods-start : {d : Cursor} → ReadyAt s d → Methods s t₀ (Ok d) n d.place t₀ (Ok d) 0
  methods-start {d} h =
      let z = items-nil method s d.place in
      let e : n - 0 ≡ n = omega arith in
      record {
        chained = rw (unseen s d.place, e) (chained-start h);
        items = record { small = h.small; all = z.1 };
        here = λ c i. let y : c ≡ d = cc in ap (λ (x : Cursor). x.place) y ∙ sym z.2;
        ready = h;
        long = refl;
      }

method-follows : {s : List ℕ} {from i : ℕ} {r r₁ q : Step} → MethodAsked s from i r r₁ q
    → Follows method (method_asks (seen_at i s from)) s r r₁ q
method-follows {s} {from} {i} {r} {r₁} {q} a = record { stays = a.stays; asks = λ c d v e j w. go c d v (stand w).value (a.asks c d e j) }
  where
    go : (c d : Cursor) (v : Value) → value_at method s c.place ≡ v
        → Asks (method_asks (seen_at i s from) (value_at method s c.place)) d q
        → Asks (method_asks (seen_at i s from) v) d q
    go c d v e b = rw e at b

chain_next : {S : Type 0} (f : S → Format) (u : S → Value → S) (x : S) (n : ℕ) → 0 < n
    → chain f u x n ≡ seq (f x) (λ v. chain f u (u x v) (n - 1))
unfolding chain
chain_next f u x zero h = absurd (omega arith)
chain_next f u x (suc n) h = let e : suc n - 1 ≡ n = omega arith in rw e

-- a method that was read, and where it ends
record MethodRead (seen : List (List ℕ)) (s : List ℕ) (p : ℕ) (w : Value) (q : ℕ) : Type 0 where
  stands : Stands method s p
  value : value_at method s p ≡ first w
  next : q ≡ next_at method s p
  new : among (content (method_name (first w))) seen ≡ false

-- a question that is passed was answered with no
passed-no : (d : Bool) (w : Wrong) → T (clear (refuse_if d w)) → d ≡ false
unfolding clear pick
passed-no true w h = absurd h
passed-no false w h = refl

method-read : {seen : List (List ℕ)} {s : List ℕ} {p : ℕ} {w : Value} {q : ℕ} → Ends (trace (new_method seen) s p) w q
    → MethodRead seen s p w q
unfolding new_method trace trace_leaf
method-read {seen} {s} {p} {w} {q} h =
    let b = seq-ends method (λ v. leaf (ask (method_asks seen v))) s p h in
    let a = stand b.fore in
    let e = ask-ends (method_asks seen (first w)) b.mid b.back in
    record { stands = a.stands; value = a.value; next = e.2 ∙ sym a.next; new = passed-no _ _ e.0 }

module _ {s t₀ : List ℕ} {r₀ : Step} {n from : ℕ} {t : List ℕ} {r : Step} {i : ℕ} (l : Methods s t₀ r₀ n from t r i) where
  module _ {t₁ : List ℕ} {r₁ : Step} (a : Reader method s r t r₁ t₁) where
    module _ {q : Step} (b : MethodAsked s from i r r₁ q) (h : i < n) where
      methods-read : Reader (new_method (seen_at i s from)) s r t q t₁
      unfolding new_method
      methods-read = follow_then a (method-follows b)

      pub methods-refused : {x : Refusal} → q ≡ Err x → Reader (chain new_method also_seen [] n) s r₀ t₀ q t₁
      methods-refused e = chained_refused {k = n - i} (omega arith) l.chained methods-read e

      pub methods-more : {d : Cursor} → q ≡ Ok d → length t₁ ≡ length t → Methods s t₀ r₀ n from t₁ q (i + 1)
      methods-more {d} e j = go r q methods-read.reads methods-read.ready l.here l.chained.comes e
        where
          go : (r q : Step) → Reads (new_method (seen_at i s from)) s r t q t₁ → Ready s q
              → ((c : Cursor) → r ≡ Ok c → c.place ≡ last_at method i s from)
              → ComesTo (chain new_method also_seen [] n) (chain new_method also_seen (seen_at i s from) (n - i)) s r₀ t₀ r t
              → q ≡ Ok d → Methods s t₀ r₀ n from t₁ q (i + 1)
          go (Ok c) (Ok g) (takes {v = w} y) u v k e =
              let x = method-read (takes-ends y) in
              let p : c.place ≡ last_at method i s from = v c refl in
              let o : n - i - 1 ≡ n - (i + 1) = omega arith in
              let z : chain new_method also_seen (seen_at i s from) (n - i) ≡ seq (new_method (seen_at i s from)) (λ v. chain new_method also_seen (also_seen (seen_at i s from) v) (n - i - 1)) =
              chain_next new_method also_seen (seen_at i s from) (n - i) (omega arith) in
              let k' : ComesTo (chain new_method also_seen [] n) (seq (new_method (seen_at i s from)) (λ v. chain new_method also_seen (also_seen (seen_at i s from) v) (n - i - 1))) s r₀ t₀ (Ok c) t = rw z at k in
              record {
                chained = record { comes = record { rest = λ b. k'.rest (then_reads y (rw (seen_more i s from w p x.value, o) b)); ready = u }; long = j ∙ l.long };
                items = record { small = l.items.small; all = rw (add-one i) (stand-snoc method i s from l.items.all (rw p at x.stands)) };
                here = λ c' f. let f' : c' ≡ g = cc in ap (λ (m : Cursor). m.place) f' ∙ x.next ∙ ap (next_at method s) p ∙ sym (last_snoc method i s from) ∙ ap (λ m. last_at method m s from) (sym (add-one i));
                ready = u;
                long = j ∙ l.long;
              }
          go (Ok c) (Err x) (refuses y) u v k e = apart e refl
          go (Err x) (Err z) skips u v k e = apart e refl
          go (Err x) (Ok g) x7 u v k e = elim x7 [ ]

  pub methods-done : n ≤ i → Reader (chain new_method also_seen [] n) s r₀ t₀ r t
  methods-done h = chained-done (omega arith) l.chained

-- where all of them can be read, none repeats one before it
new-from : (s : List ℕ) (from m i : ℕ) {p : ℕ} {w : Value} {q : ℕ} → p ≡ last_at method i s from
    → Ends (trace (chain new_method also_seen (seen_at i s from) m) s p) w q → (k : ℕ) → i ≤ k → k < i + m
    → repeat_at (keys_at (method_table NamedMethod) s from) k ≡ false
unfolding chain new_method trace trace_leaf
new-from s from zero i e h k a b = absurd (omega arith)
new-from s from (suc m) i {p} {w} e h k a b =
    let x = seq-ends (new_method (seen_at i s from)) (λ v. chain new_method also_seen (also_seen (seen_at i s from) v) m) s p h in
    let y = method-read x.fore in
    let o : x.mid ≡ last_at method (i + 1) s from = y.next ∙ ap (next_at method s) e ∙ sym (last_snoc method i s from) ∙ ap (λ j. last_at method j s from) (sym (add-one i)) in
    go (new-from s from m (i + 1) o (rw (seen_more i s from (first w) e y.value) at x.back) k) (leb (i + 1) k) (leb→le _ _) (nleb→lt _ _) (sym (method-repeat i s from) ∙ rw (← e, y.value) y.new)
  where
    go : (i + 1 ≤ k → k < i + 1 + m → repeat_at (keys_at (method_table NamedMethod) s from) k ≡ false) → (z : Bool)
        → (T z → i + 1 ≤ k) → (T (not z) → k < i + 1) → repeat_at (keys_at (method_table NamedMethod) s from) i ≡ false
        → repeat_at (keys_at (method_table NamedMethod) s from) k ≡ false
    go r true u v n = r (u tt) (omega arith)
    go r false u v n = let j : k ≡ i = omega (arith, v tt) in rw j n

pub all_new : (s : List ℕ) (from n : ℕ) {w : Value} {q : ℕ} → Ends (trace (chain new_method also_seen [] n) s from) w q
    → (k : ℕ) → k < n → repeat_at (keys_at (method_table NamedMethod) s from) k ≡ false
all_new s from n {w} {q} h k a =
    let h' : Ends (trace (chain new_method also_seen (seen_at 0 s from) n) s from) w q = rw (unseen s from) h in
    new-from s from n 0 (sym (items-nil method s from).2) h' k (omega arith) (omega arith)
