-- The laws of questions on the items of a list that was read: the loop over them, and the answers of a question reader.
use Rattle.std.proofs.Common.{Ok, Err, ℕ, ◌+◌, ◌-◌, ◌≤◌, ◌<◌, ◌≡◌, refl, ap, sym, ◌∙◌, List, [], ◌∷◌, ◌++◌, arith, add-one, length}
use Rattle.std.specs.Result.{IsErrAnd}
use Rattle.format.specs.Format.{Value, Format, Ask}
use Rattle.format.specs.Reading.{little, part}
use Rattle.vob24.specs.Settings as of
use Rattle.reader.specs.Contract.{Asks, ReadyAt, Step}
use Rattle.reader.specs.declared.Cursor.{Cursor}
use Rattle.reader.specs.declared.Refusal.{Refusal}
use Rattle.reader.proofs.Errors.{handed}
use Rattle.reader.proofs.Asks.{asks-then, asks-not, asks_none}
use Rattle.in_place.specs.Walk.{value_at, next_at, items_at, items-none, items-snoc, items-nil}
use Rattle.in_place.specs.Contract.{over, WordIs, Placed, Past, Items, ListBehind, ListAsked}
use Rattle.in_place.proofs.Walking.{items-cons, Walking, walking_start, walking_here, walking-next}

-- ---- the loop: i items before p, n - i from there on
pub record Asking (f : Format) (ask : List Value → Value → List Ask) (s : List ℕ) (from n : ℕ) (c₀ : Cursor) (p i : ℕ) (c : Cursor) : Type 0 where
  pub walk : Walking f s from n p i
  pub leads : (q : Step) → Asks (over ask (items_at f i s from) (items_at f (n - i) s p)) c q
      → Asks (over ask [] (items_at f n s from)) c₀ q

module _ {f : Format} {ask : List Value → Value → List Ask} {s : List ℕ} {from n : ℕ} {c₀ : Cursor} where
  pub asking-start : Items f n s from → Asking f ask s from n c₀ from 0 c₀
  asking-start h =
      let e : n - 0 ≡ n = omega arith in
      let z = items-nil f s from in
      record { walk = walking_start h; leads = λ q a. rw (e, z.0) at a }

  module _ {p i : ℕ} {c : Cursor} (h : i < n) (l : Asking f ask s from n c₀ p i c) where
    pub asking-here : Placed f s p
    asking-here = walking_here h l.walk

    asking-next : (q : ℕ) → Past f s p q
        → over ask (items_at f i s from) (items_at f (n - i) s p) ≡ ask (items_at f i s from) (value_at f s p) ++ over ask (items_at f (i + 1) s from) (items_at f (n - (i + 1)) s q)
    unfolding over
    asking-next q w =
        let k : n - i - 1 ≡ n - (i + 1) = omega arith in
        let x : items_at f (n - i) s p ≡ value_at f s p ∷ items_at f (n - (i + 1)) s q = items-cons {k = n - i} (omega arith) l.walk.after w ∙ rw k in
        let y : items_at f (i + 1) s from ≡ items_at f i s from ++ (value_at f s p ∷ []) = ap (λ m. items_at f m s from) (add-one i) ∙ items-snoc f i s from ∙ rw l.walk.here in
        rw (x, y)

    module _ {q : Step} (a : Asks (ask (items_at f i s from) (value_at f s p)) c q) where
      pub asking-not : {x : Refusal} → q ≡ Err x → Asks (over ask [] (items_at f n s from)) c₀ q
      asking-not {x} e = rw e (l.leads (Err x) (rw (asking-next (next_at f s p) (record { is = refl })) (asks-not _ (rw e at a))))

      pub asking-more : {d : Cursor} {z : ℕ} → q ≡ Ok d → Past f s p z → Asking f ask s from n c₀ z (i + 1) d
      asking-more {d} {z} e w = record { walk = walking-next h l.walk w; leads = λ q b. l.leads q (rw (asking-next z w) (asks-then _ (rw e at a) b)) }

  pub asking-done : {p i : ℕ} {c : Cursor} → n ≤ i → Asking f ask s from n c₀ p i c
      → Asks (over ask [] (items_at f n s from)) c₀ (Ok c)
  unfolding over
  asking-done {p} {i} {c} h l = l.leads (Ok c) (rw (items-none f (n - i) s p (omega arith)) asks_none)

pub apart : {X : Type 0} {r : Step} {c : Cursor} {x : Refusal} → r ≡ Ok c → r ≡ Err x → X
apart e i = absurd (cc)

-- the refusal of some questions is handed on
pub asks-up : {l : List Ask} {c : Cursor} {p q : Step} {x : Refusal} → p ≡ Err x → IsErrAnd q (λ y. y ≡ x) → Asks l c p → Asks l c q
asks-up {q = q} e i a = rw (handed q i ∙ sym e) a

-- ---- the answers of a question reader
module _ {f : Format} {l : List Value → List Ask} {s : List ℕ} {r r₁ : Step} where
  pub list-refused : {x : Refusal} → r₁ ≡ Err x → ListAsked f l s r r₁ r₁
  list-refused e = record { stays = λ y i. refl; asks = λ c d i j. apart j e }

  pub list-up : {x : Refusal} {q : Step} → r₁ ≡ Err x → IsErrAnd q (λ y. y ≡ x) → ListAsked f l s r r₁ q
  list-up {q = q} e i = record { stays = λ y j. handed q i ∙ sym e; asks = λ c d j k. apart k e }

  pub list-lost : {x : Refusal} {d : Cursor} {q : Step} → r ≡ Err x → r₁ ≡ Ok d → ListAsked f l s r r₁ q
  list-lost e k = record { stays = λ y i. apart k i; asks = λ c d i j. apart i e }

  module _ {c d : Cursor} (h : r ≡ Ok c) (k : r₁ ≡ Ok d) where
    pub list-asked : {n : ℕ} {q : Step} → WordIs s c.place n → Asks (l (items_at f n s (c.place + 4))) d q
        → ListAsked f l s r r₁ q
    list-asked {n} {q} e a = record { stays = λ y i. apart k i; asks = λ c' d' i j. go c' d' (cc) (cc) }
      where
        go : (c' d' : Cursor) → c' ≡ c → d' ≡ d
            → Asks (l (items_at f (little (part s c'.place 4)) s (c'.place + 4))) d' q
        go c' d' x y = rw (x, y, ← e.is) a

module _ {f : Format} {s : List ℕ} {r r₁ : Step} {c d : Cursor} (h : r ≡ Ok c) (k : r₁ ≡ Ok d) (b : ListBehind f s r r₁) where
  list-ready : ReadyAt s c
  list-ready = rw h at b.before

  pub list-room : c.place + 4 ≤ length s
  list-room = (b.comes c d h k).0

  pub list-small : length s ≤ of.max_pack_bytes
  list-small = list-ready.small

  pub list-items : {n : ℕ} → WordIs s c.place n → Items f n s (c.place + 4)
  list-items e = rw e.is (record { small = list-small; all = (b.comes c d h k).1 })
