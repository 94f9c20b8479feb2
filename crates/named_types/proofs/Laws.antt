-- The laws of a named type's methods: their count, the loop that reads them, and the first repeat among them.
use Rattle.std.proofs.Common.{Ok, Err, ℕ, ◌+◌, ◌≤◌, ◌<◌, ◌≡◌, refl, ap, sym, ◌∙◌, List, [], ◌∷◌, Bool, true, false, arith, add-one, length}
use Rattle.format.specs.Trace.{Wrong, pick, settle}
use Rattle.format.specs.Reading.{trace_ask}
use Rattle.format.specs.Format.{number, Ask, deny, chain}
use Rattle.vob24.specs.Settings.{Settings}
use Rattle.vob24.specs.Grammar.{methods, new_method, also_seen}
use Rattle.fields.specs.Fields.{method_count}
use Rattle.reader.specs.Contract.{Ready, ReadyAt, Reads, takes, refuses, Reader, NumberOf, Asks, passes, denies, Step, Read}
use Rattle.reader.specs.declared.Cursor.{Cursor}
use Rattle.reader.specs.declared.Refusal.{Refusal}
use Rattle.reader.proofs.Laws.{at-step, number_then, takes-ends}
use Rattle.reader.proofs.Asks.{asks_none, behind}
use Rattle.in_place.specs.declared.Item.TheVariants.{NamedMethod}
use Rattle.in_place.specs.declared.Table.TheVariants.{Methods as method_table}
use Rattle.in_place.specs.Walk.{next_at, last_at, stand, items-nil, stand-snoc, last_snoc}
use Rattle.in_place.specs.Contract.{Items}
use Rattle.in_place.proofs.Following.{was-taken}
use Rattle.repeat_search.specs.Keys.{repeat_at, FirstRepeat}
use Rattle.repeat_search.specs.Tables.{keys_at}
use Rattle.unique_names.specs.Contract.{MethodBehind, MethodAsked}
use Rattle.unique_names.proofs.Lists.{method-repeat, method-kept}
use Rattle.unique_names.proofs.Methods.{Methods, methods-start, methods-more, methods-refused, methods-done, all_new}
use Rattle.reader.specs.Accepted.{Accepted}
use Rattle.reader.proofs.Accepting.{Known, accepted-part, accepted-ends}
use Rattle.vob24_theorems.specs.RefusalNumbers.{methods-listed}
use Rattle.named_types.specs.NamedTypes.{named_method, named_methods, new_methods, AllNew, MethodsRead}

pub methods_then : (set : Settings) {s : List ℕ} {c d : Cursor} {q : Read ℕ} {n : ℕ} {r r₂ : Step} {t t₁ t₂ : List ℕ}
    → r ≡ Ok c → q ≡ Ok (n, d) → NumberOf (method_count set) number s c t q t₁
    → Reader (chain new_method also_seen [] n) s (Ok d) t₁ r₂ t₂ → Reader (named_methods set) s r t r₂ t₂
unfolding methods
methods_then set y e h k = at-step y (number_then (chain new_method also_seen []) e h k)

-- ---- THE invariant of the loop that reads them: if the i methods are all new, they have been judged
pub record Unjudged (s t₀ : List ℕ) (r₀ : Step) (n first from : ℕ) (t : List ℕ) (r : Step) (i : ℕ) : Type 0 where
  pub items : Items named_method i s from
  pub here : (c : Cursor) → r ≡ Ok c → c.place ≡ last_at named_method i s from
  pub ready : Ready s r
  pub within : i ≤ n
  pub below : i ≤ first
  pub long : length t ≡ length t₀
  pub judged : AllNew s from i → Methods s t₀ r₀ n from t r i

-- a method that is new
new-asked : {s : List ℕ} {from i : ℕ} {r r₁ : Step}
    → ((c : Cursor) → r ≡ Ok c → c.place ≡ last_at named_method i s from)
    → repeat_at (keys_at (method_table NamedMethod) s from) i ≡ false → MethodAsked s from i r r₁ r₁
unfolding pick
new-asked {s} {from} {i} {r} {r₁} h e = record { stays = λ x j. refl; asks = λ c d j k. rw (h c j, method-repeat i s from, e, k) asks_none }

-- a repeat is refused
denied : {w : Wrong} {l : List Ask} {c : Cursor} {q : Step} → Asks (deny w ∷ l) c q → (x : Refusal) × (q ≡ Err x)
unfolding trace_ask settle
denied (passes e f) = absurd (cc)
denied (denies {x = x} e) = (x, refl)

old-asked : {s : List ℕ} {from i : ℕ} {r r₁ q : Step} → ((d : Cursor) → r₁ ≡ Ok d → (c : Cursor) × (r ≡ Ok c))
    → ((c : Cursor) → r ≡ Ok c → c.place ≡ last_at named_method i s from)
    → repeat_at (keys_at (method_table NamedMethod) s from) i ≡ true
    → MethodAsked s from i r r₁ q → (x : Refusal) × (q ≡ Err x)
unfolding pick
old-asked {s} {from} {i} {r} {r₁} {q} t h e a = go r₁ refl
  where
    go : (z : Step) → r₁ ≡ z → (x : Refusal) × (q ≡ Err x)
    go (Ok d) j = let c = t d j in denied (rw (h c.0 c.1, method-repeat i s from, e) at (a.asks c.0 d c.1 j))
    go (Err x) j = (x, a.stays x j ∙ j)

pub unjudged-start : {s t₀ : List ℕ} {d : Cursor} {n first : ℕ} → ReadyAt s d
    → Unjudged s t₀ (Ok d) n first d.place t₀ (Ok d) 0
unjudged-start {s} {t₀} {d} {n} {first} h =
    let z = items-nil named_method s d.place in
    record {
      items = record { small = h.small; all = z.1 };
      here = λ c i. let y : c ≡ d = cc in ap (λ (x : Cursor). x.place) y ∙ sym z.2;
      ready = h;
      within = omega arith;
      below = omega arith;
      long = refl;
      judged = λ a. methods-start h;
    }

module _ {s t₀ : List ℕ} {d b : Cursor} {n first : ℕ} {t : List ℕ} {i : ℕ} (l : Unjudged s t₀ (Ok d) n first d.place t (Ok b) i) where
  pub unjudged-done : n ≤ i → MethodsRead s d n first t₀ n (Ok b) t
  unjudged-done h =
      let e : i ≡ n = omega (arith, l.within) in
      record {
        within = omega arith;
        below = omega (arith, l.below);
        items = rw e at l.items;
        reads = λ a b. methods-done (l.judged (rw e a)) h;
        stops = λ a b. absurd (omega (arith, l.below));
      }

  module _ (h : i < n) {r₁ : Step} {t₁ : List ℕ} (a : Reader named_method s (Ok b) t r₁ t₁) where
    pub unjudged-behind : MethodBehind s d.place i (Ok b) r₁
    unjudged-behind = record { items = l.items; ready = a.ready; comes = λ c e j k. (stand ((behind l.ready a).comes c e j k).1).stands }

    -- method `first`
    pub unjudged-last : {q : Step} → i ≡ first → MethodAsked s d.place i (Ok b) r₁ q → MethodsRead s d n first t₀ i q t₁
    unjudged-last {q} e b =
        record {
          within = omega arith;
          below = l.below;
          items = l.items;
          reads = λ u v. let x = old-asked (was-taken a.reads) l.here (rw e (v (omega arith))) b in methods-refused (l.judged u) a b h x.1;
          stops = λ u v w. old-asked (was-taken a.reads) l.here (rw e w) b;
        }

    module _ (k : i ≡ first → ⊥) where
      pub unjudged-refused : {x : Refusal} → r₁ ≡ Err x → MethodsRead s d n first t₀ i r₁ t₁
      unjudged-refused {x} e =
          record {
            within = omega arith;
            below = l.below;
            items = l.items;
            reads = λ u v. methods-refused (l.judged u) a (method-kept e) h e;
            stops = λ u v w. (x, e);
          }

      pub unjudged-more : {e : Cursor} → r₁ ≡ Ok e → length t₁ ≡ length t
          → Unjudged s t₀ (Ok d) n first d.place t₁ (Ok e) (i + 1)
      unjudged-more {e} j o = go (rw j at a.reads)
        where
          judge : AllNew s d.place (i + 1) → Methods s t₀ (Ok d) n d.place t₁ r₁ (i + 1)
          judge u = methods-more (l.judged (record { new = λ m b. u.new m (omega arith) })) a (new-asked l.here (u.new i (omega arith))) h j o

          go : Reads named_method s (Ok b) t (Ok e) t₁ → Unjudged s t₀ (Ok d) n first d.place t₁ (Ok e) (i + 1)
          go (takes y) =
              let z = stand (takes-ends y) in
              let x : b.place ≡ last_at named_method i s d.place = l.here b refl in
              record {
                items = record { small = l.items.small; all = rw (add-one i) (stand-snoc named_method i s d.place l.items.all (rw x at z.stands)) };
                here = λ c v. let f : c ≡ e = cc in ap (λ (m : Cursor). m.place) f ∙ sym z.next ∙ ap (next_at named_method s) x ∙ sym (last_snoc named_method i s d.place) ∙ ap (λ m. last_at named_method m s d.place) (sym (add-one i));
                ready = rw j at a.ready;
                within = omega arith;
                below = omega (arith, l.below);
                long = o ∙ l.long;
                judged = λ u. rw j at (judge u);
              }

-- ---- the first repeat among those that were read
module _ {s : List ℕ} {d : Cursor} {n m first : ℕ} {t t₁ : List ℕ} {q : Step} (a : MethodsRead s d n n t m q t₁) (f : FirstRepeat (keys_at (method_table NamedMethod) s d.place) m first) where
  -- there is none
  pub first_run : first ≡ m → Reader (new_methods n) s (Ok d) t q t₁
  first_run e = a.reads (record { new = λ k h. f.new k (omega arith) }) (λ h. absurd (omega arith))

  -- a refusal tells nothing of the tape
  pub second_run : {t₂ : List ℕ} {m₂ : ℕ} {q₂ : Step} → (first ≡ m → ⊥) → MethodsRead s d n first t₁ m₂ q₂ t₂
      → Reader (new_methods n) s (Ok d) t q₂ t₂
  second_run {t₂} {m₂} {q₂} k b = go q₂ (b.stops news (omega (arith, f.within, a.within)) old) (b.reads news (λ h. old))
    where
      news : AllNew s d.place m₂
      news = record { new = λ j h. f.new j (omega (arith, b.below)) }

      old : repeat_at (keys_at (method_table NamedMethod) s d.place) first ≡ true
      old = f.found (omega (arith, f.within))

      again : {x : Refusal} → Reads (new_methods n) s (Ok d) t₁ (Err x) t₂
          → Reads (new_methods n) s (Ok d) t (Err x) t₂
      again (refuses y) = refuses y

      go : (z : Step) → (x : Refusal) × (z ≡ Err x) → Reader (new_methods n) s (Ok d) t₁ z t₂
          → Reader (new_methods n) s (Ok d) t z t₂
      go z e c = let i = e.1 in rw i (record { reads = again (rw i at c.reads); ready = tt })

-- in a second pass there is none
pub accepted-run : (set : Settings) {s : List ℕ} {b : Bool} {r : Step} {c d : Cursor} {p : Read ℕ} {n m : ℕ} {q : Step} {t t₁ t₂ : List ℕ}
    → r ≡ Ok c → p ≡ Ok (n, d) → NumberOf (method_count set) number s c t p t₁ → b ≡ true
    → Accepted b (named_methods set) s r → MethodsRead s d n n t₁ m q t₂ → Reader (named_methods set) s r t q t₂
accepted-run set {s} {d = d} {n = n} y e h i g a =
    let o : Known (new_methods n) s d = record { number = λ w p l k. let z = methods-listed set n s d.place d.left k in (z.least, omega (arith, z.most)) } in
    let w = accepted-ends o i (accepted-part (λ x k. methods_then set y e h k) g) in
    methods_then set y e h (a.reads (record { new = λ k l. all_new s d.place n w.2 k (omega (arith, a.within)) }) (λ l. absurd (omega arith)))
