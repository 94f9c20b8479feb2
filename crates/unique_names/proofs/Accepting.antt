-- What a second pass knows of questions on names: none is refused, so no item of a table repeats another.
use Rattle.std.proofs.Common.{Ok, Err, ℕ, suc, zero, ◌+◌, ◌≤◌, ◌<◌, ◌≡◌, refl, sym, ◌∙◌, List, [], ◌∷◌, Bool, true, false, not, arith, T, leb, leb→le, length}
use lib.Dec.{nleb→lt}
use Rattle.format.specs.Trace.{pick}
use Rattle.format.specs.Format.{Value, content, Ask, pay, Format}
use Rattle.vob24.specs.Refusals.{struct_field_key}
use Rattle.vob24.specs.Questions.{blank}
use Rattle.reader.specs.Contract.{paid, Reader, Asks, Step}
use Rattle.reader.specs.declared.Cursor.{Cursor}
use Rattle.reader.specs.declared.Refusal.{Refusal}
use Rattle.reader.proofs.Asks.{asks-then, asks-not, asks_none, asks-poor, asks-paid}
use Rattle.in_place.specs.declared.Item.TheVariants.{StructField}
use Rattle.in_place.specs.declared.Table.{Table}
use Rattle.in_place.specs.declared.Table.TheVariants.{Fields, Methods, Identities, Alike}
use Rattle.in_place.specs.Items.{name_of}
use Rattle.in_place.specs.Walk.{value_at, items_at, last_at, items-snoc, items-nil, last_snoc}
use Rattle.in_place.specs.Tables.{format_in}
use Rattle.in_place.specs.Contract.{over, ListAsked}
use Rattle.in_place.proofs.Asking.{apart}
use Rattle.repeat_search.specs.Keys.{repeat_at, FirstRepeat}
use Rattle.repeat_search.specs.Tables.{keys_at}
use Rattle.repeat_search.proofs.Tables.{repeats-at}
use Rattle.reader.specs.Accepted.{Accepted, AsksAccepted}
use Rattle.reader.proofs.Accepting.{denied}
use Rattle.unique_names.specs.Asking.{charges, table_asks}
use Rattle.unique_names.specs.Contract.{ListAccepted}
use Rattle.unique_names.proofs.Asking.{refuse-yes, refuse-no, told-in}

-- a charge is paid or refused
paid-either : (k n : ℕ) (c : Cursor) → (q : Step) × Asks (pay k n ∷ []) c q
paid-either k n c = go (paid k n c) refl
  where
    go : (y : Step) → paid k n c ≡ y → (q : Step) × Asks (pay k n ∷ []) c q
    go (Ok d) e = (Ok d, asks-paid (record { is = refl }) e asks_none)
    go (Err x) e = (paid k n c, asks-poor (record { is = refl }) e)

answered : (t : Table) (v : Value) (c : Cursor) → (q : Step) × Asks (charges t v) c q
unfolding pick
answered Fields v c = go (blank (name_of StructField v))
  where
    go : (b : Bool) → (q : Step) × Asks (pick b [] (pay struct_field_key (length (content (name_of StructField v))) ∷ [])) c q
    go true = (Ok c, asks_none)
    go false = paid-either _ _ c
answered (Methods i) v c = (Ok c, asks_none)
answered Identities v c = (Ok c, asks_none)
answered (Alike i) v c = (Ok c, asks_none)

-- item k, of the m items after the first i
refused-at : (t : Table) (s : List ℕ) (from k m i : ℕ) (c : Cursor) → i ≤ k → k < i + m
    → repeat_at (keys_at t s from) k ≡ true
    → (x : Refusal) × Asks (over (table_asks t) (items_at (format_in t) i s from) (items_at (format_in t) m s (last_at (format_in t) i s from))) c (Err x)
unfolding over items_at table_asks
refused-at t s from k zero i c h j e = absurd (omega arith)
refused-at t s from k (suc m) i c h j e =
    let a = answered t (value_at (format_in t) s (last_at (format_in t) i s from)) c in
    go (λ d. refused-at t s from k m (suc i) d) a.0 a.1 (repeat_at (keys_at t s from) i) refl (leb (suc i) k) (leb→le _ _) (nleb→lt _ _)
  where
    go : ((d : Cursor) → suc i ≤ k → k < suc i + m → repeat_at (keys_at t s from) k ≡ true → (x : Refusal) × Asks (over (table_asks t) (items_at (format_in t) (suc i) s from) (items_at (format_in t) m s (last_at (format_in t) (suc i) s from))) d (Err x))
        → (q : Step) → Asks (charges t (value_at (format_in t) s (last_at (format_in t) i s from))) c q → (b : Bool)
        → repeat_at (keys_at t s from) i ≡ b → (z : Bool) → (T z → suc i ≤ k) → (T (not z) → k < suc i)
        → (x : Refusal) × Asks (over (table_asks t) (items_at (format_in t) i s from) (items_at (format_in t) (suc m) s (last_at (format_in t) i s from))) c (Err x)
    go r (Err x) a b y z u w = (x, asks-not _ (asks-not _ a))
    go r (Ok d) a true y z u w = let x = told-in t (value_at (format_in t) s (last_at (format_in t) i s from)) d in (x.0, asks-not _ (asks-then _ a (refuse-yes _ (sym (repeats-at t s from i) ∙ y) refl x.1)))
    go r (Ok d) a false y true u w =
        let n = r d (u tt) (omega arith) e in
        let o = rw (items-snoc (format_in t) i s from) at (rw (last_snoc (format_in t) i s from) at n.1) in
        (n.0, asks-then _ (asks-then _ a (refuse-no _ (sym (repeats-at t s from i) ∙ y))) o)
    go r (Ok d) a false y false u w = let x : k ≡ i = omega (arith, w tt) in absurd (cc)

pub none-repeats : (t : Table) (s : List ℕ) (from n : ℕ) {b : Bool} {c : Cursor} → b ≡ true
    → AsksAccepted b (over (table_asks t) [] (items_at (format_in t) n s from)) c → FirstRepeat (keys_at t s from) n n
none-repeats t s from n {b} {c} e g = record { within = omega arith; new = λ k h. go k h (repeat_at (keys_at t s from) k) refl; found = λ h. absurd (omega arith) }
  where
    go : (k : ℕ) → k < n → (d : Bool) → repeat_at (keys_at t s from) k ≡ d → d ≡ false
    go k h false i = refl
    go k h true i =
        let z = items-nil (format_in t) s from in
        let r = refused-at t s from k n 0 c (omega arith) (omega arith) i in
        absurd (g.never e r.0 (rw (z.0, z.2) at r.1))

-- of questions on a list that are a part of f
pub accepted-list : {b : Bool} {f g : Format} {l : List Value → List Ask} {s : List ℕ} {r r₁ r₂ : Step} {t t' : List ℕ}
    → ((x : Refusal) → ListAsked g l s r₁ r₂ (Err x) → Reader f s r t (Err x) t') → Accepted b f s r
    → ListAccepted b g l s r₁ r₂
accepted-list k a = record { never = λ c d i j. record { never = λ e x h. denied a e (k x (record { stays = λ y z. apart j z; asks = λ c' d' i' j'. let u : c' ≡ c = cc in let v : d' ≡ d = cc in rw (u, v) h })).reads } }

-- of what such a list's questions come to
pub accepted-asks : {b : Bool} {f : Format} {l : List Value → List Ask} {s : List ℕ} {r r₁ : Step} {c d e : Cursor} {m : List Ask}
    → ListAccepted b f l s r r₁ → r ≡ Ok c → r₁ ≡ Ok d
    → ((x : Refusal) → Asks m e (Err x) → ListAsked f l s r r₁ (Err x)) → AsksAccepted b m e
accepted-asks g i j k = record { never = λ h x a. (g.never _ _ i j).never h x ((k x a).asks _ _ i j) }
