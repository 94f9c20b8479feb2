-- The laws of the questions on a list that was read: its charge, then its items.
use Rattle.std.proofs.Common.{Ok, Err, ℕ, suc, zero, ◌*◌, ◌≡◌, refl, ap, sym, ◌∙◌, List, [], Bool, true, false}
use Rattle.std.specs.Result.{IsErrAnd}
use Rattle.format.specs.Trace.{pick}
use Rattle.format.specs.Format.{content}
use Rattle.format.specs.Reading.{same}
use Rattle.vob24.specs.Settings as of
use Rattle.vob24.specs.Settings.{Settings, size_of}
use Rattle.vob24.specs.Questions.{among}
use Rattle.vob24.specs.Grammar.{struct_field, method, method_name, runtime_field, identity}
use Rattle.reader.specs.Numbers.{context_number}
use Rattle.reader.specs.Contract.{Paid, Asks, Step}
use Rattle.reader.specs.declared.kinds.Kind.TheVariants.{DuplicateNamedMethod}
use Rattle.reader.specs.declared.kinds.Context.TheVariants.{StructFieldIndex, InterfaceMethodSet, RuntimeStructFieldSet}
use Rattle.reader.specs.declared.Cursor.{Cursor}
use Rattle.reader.specs.declared.Refusal.{Refusal}
use Rattle.reader.proofs.Errors.{handed}
use Rattle.reader.proofs.Asks.{asks-poor, asks-paid}
use Rattle.in_place.specs.declared.Item.{Item}
use Rattle.in_place.specs.declared.Item.TheVariants.{NamedMethod}
use Rattle.in_place.specs.declared.Table.{Table}
use Rattle.in_place.specs.declared.Table.TheVariants.{Fields, Methods, Identities, Alike}
use Rattle.in_place.specs.Walk.{value_at, items_at, last_at, items-snoc, items-length}
use Rattle.in_place.specs.Items.{format_of, name_of, contents}
use Rattle.in_place.specs.Tables.{key_of, format_in}
use Rattle.in_place.specs.Contract.{over, Seen, After}
use Rattle.in_place.proofs.Asking.{apart}
use Rattle.repeat_search.specs.Keys.{repeat_at}
use Rattle.repeat_search.specs.Tables.{repeats, keys_at}
use Rattle.unique_names.specs.Asking.{table_asks, list_asks, seen_at, method_asks}
use Rattle.repeat_search.proofs.Tables.{repeats-at}
use Rattle.unique_names.specs.declared.Charge.{Charge}
use Rattle.unique_names.specs.Contract.{Repeated, Tallied, ChargedFor, MethodBehind, MethodAsked}
use Rattle.unique_names.proofs.Asking.{refuse-yes, refuse-no, repeat-told}
use Rattle.unique_names.proofs.Paying.{free-cost}
use Rattle.unique_names.proofs.Orders.{names-map, map-length, contents-snoc, plain-keys, names-over, keys-over, identities-over}

-- ---- the answers of `table_charge`
module _ {set : Settings} {t : Table} {s : List ℕ} {from n : ℕ} where
  pub charge-fields : {m b z : ℕ} → t ≡ Fields → Tallied s from n m b → z ≡ size_of set of.StringUsize
      → ChargedFor set t s from n (record { context = StructFieldIndex; size = m * z; keys = b })
  charge-fields e a j = rw e (record { asks = rw (a.named.is, j, keys-over (items_at struct_field n s from)); cost = a.cost })

  pub charge-methods : {i : Item} {z : ℕ} → t ≡ Methods i → z ≡ size_of set of.Str
      → ChargedFor set t s from n (record { context = InterfaceMethodSet; size = n * (2 * z); keys = 0 })
  charge-methods {i} e j = rw e (record { asks = rw (j, names-map i (items_at (format_of i) n s from), map-length (name_of i) (items_at (format_of i) n s from), items-length (format_of i) n s from, names-over i (items_at (format_of i) n s from)); cost = free-cost (Methods i) (λ v. refl) })

  pub charge-names : {i : Item} {z : ℕ} → t ≡ Alike i → z ≡ size_of set of.Str
      → ChargedFor set t s from n (record { context = InterfaceMethodSet; size = n * (2 * z); keys = 0 })
  charge-names {i} e j = rw e (record { asks = rw (j, items-length (format_of i) n s from); cost = free-cost (Alike i) (λ v. refl) })

  pub charge-identities : {z : ℕ} → t ≡ Identities → z ≡ size_of set of.StrStr
      → ChargedFor set t s from n (record { context = RuntimeStructFieldSet; size = n * (2 * z); keys = 0 })
  charge-identities e j = rw e (record { asks = rw (j, map-length identity (items_at runtime_field n s from), items-length runtime_field n s from, identities-over (items_at runtime_field n s from)); cost = free-cost Identities (λ v. refl) })

  -- the charge, and then the items
  module _ {q : Charge} (a : ChargedFor set t s from n q) {c : Cursor} {y : Step} (p : Paid (context_number q.context) q.size c y) where
    pub charge-poor : {x : Refusal} → y ≡ Err x → Asks (list_asks t set (items_at (format_in t) n s from)) c y
    charge-poor e = rw a.asks (asks-poor p e)

    pub charge-then : {d : Cursor} {r : Step} → y ≡ Ok d
        → Asks (over (table_asks t) [] (items_at (format_in t) n s from)) d r
        → Asks (list_asks t set (items_at (format_in t) n s from)) c r
    charge-then e b = rw a.asks (asks-paid p e b)

-- ---- 18

-- the names seen after n methods are theirs
seen-methods : (x : List ℕ) (n : ℕ) (s : List ℕ) (from : ℕ)
    → among x (seen_at n s from) ≡ among x (contents NamedMethod (items_at method n s from))
unfolding seen_at among items_at
seen-methods x zero s from = refl
seen-methods x (suc n) s from =
    let v = value_at method s (last_at method n s from) in
    ap (λ b. pick (same x (content (method_name v))) true b) (seen-methods x n s from)
    ∙ sym (ap (λ vs. among x (contents NamedMethod vs)) (items-snoc method n s from) ∙ contents-snoc NamedMethod x (items_at method n s from) v)

pub method-repeat : (n : ℕ) (s : List ℕ) (from : ℕ)
    → among (content (method_name (value_at method s (last_at method n s from)))) (seen_at n s from) ≡ repeat_at (keys_at (Methods NamedMethod) s from) n
unfolding repeats pick
method-repeat n s from = seen-methods _ n s from ∙ sym (plain-keys (key_of (Methods NamedMethod)) (λ v. refl) (value_at method s (last_at method n s from)) (items_at method n s from)) ∙ sym (repeats-at (Methods NamedMethod) s from n)

module _ {s : List ℕ} {from n : ℕ} {r r₁ : Step} where
  pub method-kept : {x : Refusal} → r₁ ≡ Err x → MethodAsked s from n r r₁ r₁
  method-kept e = record { stays = λ y i. refl; asks = λ c d i j. apart j e }

  pub method-up : {x : Refusal} {q : Step} → r₁ ≡ Err x → IsErrAnd q (λ y. y ≡ x) → MethodAsked s from n r r₁ q
  method-up {q = q} e i = rw (handed q i ∙ sym e) (method-kept e)

  pub method-lost : {x : Refusal} {d : Cursor} {q : Step} → r ≡ Err x → r₁ ≡ Ok d → MethodAsked s from n r r₁ q
  method-lost e k = record { stays = λ y i. apart k i; asks = λ c d i j. apart i e }

  module _ {c d : Cursor} (h : r ≡ Ok c) (k : r₁ ≡ Ok d) where
    method-asked : {q : Step} → Asks (method_asks (seen_at n s from) (value_at method s c.place)) d q
        → MethodAsked s from n r r₁ q
    method-asked {q} a = record { stays = λ y i. apart k i; asks = λ c' d' i j. go c' d' (cc) (cc) }
      where
        go : (c' d' : Cursor) → c' ≡ c → d' ≡ d
            → Asks (method_asks (seen_at n s from) (value_at method s c'.place)) d' q
        go c' d' x y = rw (x, y) a

    module _ (b : MethodBehind s from n r r₁) where
      pub method-at : After method s from n c.place
      method-at = record { before = b.items; here = record { small = b.items.small; stands = b.comes c d h k } }

      module _ {z : Bool} (w : Seen (Methods NamedMethod) s from n c.place z) where
        method-among : among (content (method_name (value_at method s c.place))) (seen_at n s from) ≡ z
        method-among = seen-methods _ n s from ∙ sym (plain-keys (key_of (Methods NamedMethod)) (λ v. refl) (value_at method s c.place) (items_at method n s from)) ∙ sym w.is

        pub method-again : {q : Step} → z ≡ true → Repeated s c.place d DuplicateNamedMethod 0 q
            → MethodAsked s from n r r₁ q
        method-again e t = method-asked (refuse-yes _ (method-among ∙ e) t.is (repeat-told NamedMethod method-at.here DuplicateNamedMethod 0 d))

        pub method-new : z ≡ false → MethodAsked s from n r r₁ (Ok d)
        method-new e = method-asked (refuse-no _ (method-among ∙ e))
