-- The laws by which a section's reader asks: on a list that it has read, and on two lists.
use Rattle.std.proofs.Common.{ℕ, ◌+◌, ◌≤◌, ◌≡◌, refl, ◌∙◌, List, length, Ok, Err}
use Rattle.format.specs.Trace.{Ends}
use Rattle.format.specs.Format.{Value, Rule, ask, Ask, Format, leaf, seq, ◌▸◌, entries}
use Rattle.format.specs.Reading.{little, part, trace}
use Rattle.reader.specs.Contract.{Ready, Reads, takes, refuses, skips, Reader, Asks, Follows, Step}
use Rattle.reader.specs.declared.Cursor.{Cursor}
use Rattle.reader.specs.declared.Refusal.{Refusal}
use Rattle.reader.proofs.Laws.{takes-ends, takes-ready, then_reads, seq-refuses, field_then}
use Rattle.reader.proofs.Asks.{asks-reads, behind, follow_then}
use Rattle.in_place.specs.Walk.{AllStand, items_at, list-off}
use Rattle.in_place.specs.Contract.{ListBehind, ListAsked}
use Rattle.in_place.proofs.Asking.{apart}
use Rattle.in_place.proofs.Lists.{listing}

module _ {ρ : Rule} {m k z : ℕ} {f : Format} {s : List ℕ} where
  -- the list, the reading having gone on to r₂
  pub list-behind : {t t₁ : List ℕ} {r r₁ r₂ : Step} → Ready s r → Reader (listing ρ m k z f) s r t r₁ t₁ → Ready s r₂
      → ((d : Cursor) → r₂ ≡ Ok d → (e : Cursor) × (r₁ ≡ Ok e)) → ListBehind f s r r₂
  list-behind {t} {t₁} {r} {r₁} {r₂} h a i j = record { before = h; ready = i; comes = go }
    where
      go : (c d : Cursor) → r ≡ Ok c → r₂ ≡ Ok d
          → (c.place + 4 ≤ length s) × AllStand f (little (part s c.place 4)) s (c.place + 4)
      go c d x y =
          let e = j d y in
          let v = (behind h a).comes c e.0 x e.1 in
          let o = list-off ρ m k z f s c.place v.1 in
          (o.0, o.2)

  pub list-here : {t t₁ : List ℕ} {r r₁ : Step} → Ready s r → Reader (listing ρ m k z f) s r t r₁ t₁
      → ListBehind f s r r₁
  list-here h a = list-behind h a a.ready (λ d e. (d, e))

  -- the questions right after the list
  pub list-follows : {l : List Value → List Ask} {r r₁ q : Step} → ListAsked f l s r r₁ q
      → Follows (listing ρ m k z f) (λ v. l (entries v)) s r r₁ q
  list-follows {l} {r} {r₁} {q} a = record { stays = a.stays; asks = λ c d v e i w. go c d v (list-off ρ m k z f s c.place w).1 (a.asks c d e i) }
    where
      go : (c d : Cursor) (v : Value) → entries v ≡ items_at f (little (part s c.place 4)) s (c.place + 4)
          → Asks (l (items_at f (little (part s c.place 4)) s (c.place + 4))) d q → Asks (l (entries v)) d q
      go c d v e b = rw e b

  pub list_asks : {l : List Value → List Ask} {t t₁ : List ℕ} {r r₁ q : Step} → Reader (listing ρ m k z f) s r t r₁ t₁
      → ListAsked f l s r r₁ q → Reader (seq (listing ρ m k z f) (λ v. leaf (ask (l (entries v))))) s r t q t₁
  list_asks h a = follow_then h (list-follows a)

-- ---- two lists, then the questions on the first and those on the second

reads-ready : {f : Format} {s : List ℕ} {r q : Step} {t t₁ : List ℕ} → Ready s r → Reads f s r t q t₁ → Ready s q
reads-ready h (takes a) = takes-ready h a
reads-ready h (refuses a) = tt
reads-ready h skips = tt

-- what goes on was not refused before
pub was-taken : {f : Format} {s : List ℕ} {r q : Step} {t t₁ : List ℕ} → Reads f s r t q t₁ → (d : Cursor) → q ≡ Ok d
    → (c : Cursor) × (r ≡ Ok c)
was-taken (takes {c = c} a) d e = (c, refl)
was-taken (refuses {c = c} a) d e = (c, refl)
was-taken skips d e = apart e refl

still-refused : {f : Format} {s : List ℕ} {r q : Step} {t t₁ : List ℕ} → Reads f s r t q t₁ → (x : Refusal)
    → r ≡ Err x → q ≡ r
still-refused (takes a) x e = apart refl e
still-refused (refuses a) x e = apart refl e
still-refused skips x e = refl

-- the questions at r₂ on the list at r
asked-reader : {f : Format} {l : List Value → List Ask} {s t : List ℕ} {r r₂ q : Step} {c : Cursor} {vs : List Value}
    → r ≡ Ok c → vs ≡ items_at f (little (part s c.place 4)) s (c.place + 4) → Ready s r₂ → ListAsked f l s r r₂ q
    → Reader (leaf (ask (l vs))) s r₂ t q t
asked-reader {f} {l} {s} {t} {r} {r₂} {q} {c} {vs} e i h a = go r₂ h (λ d j. rw i (a.asks c d e j)) a.stays
  where
    go : (r₂ : Step) → Ready s r₂ → ((d : Cursor) → r₂ ≡ Ok d → Asks (l vs) d q)
        → ((x : Refusal) → r₂ ≡ Err x → q ≡ r₂) → Reader (leaf (ask (l vs))) s r₂ t q t
    go (Ok d) h b k = let w = asks-reads (b d refl) in record { reads = w; ready = reads-ready h w }
    go (Err x) h b k = rw (k x refl) (record { reads = skips; ready = tt })

-- a part, and the rest by the value that was read
value_then : {f : Format} {g : Value → Format} {s t t₁ t₂ : List ℕ} {r r₁ r₂ : Step} → Reader f s r t r₁ t₁
    → ((c d : Cursor) (v : Value) → r ≡ Ok c → r₁ ≡ Ok d → Ends (trace f s c.place) v d.place → Reader (g v) s r₁ t₁ r₂ t₂)
    → ((x : Refusal) → r₁ ≡ Err x → r₂ ≡ r₁) → Reader (seq f g) s r t r₂ t₂
value_then {f} {g} {s} {t} {t₁} {t₂} {r} {r₁} {r₂} h k i = go r r₁ h.reads k i
  where
    go : (r r₁ : Step) → Reads f s r t r₁ t₁
        → ((c d : Cursor) (v : Value) → r ≡ Ok c → r₁ ≡ Ok d → Ends (trace f s c.place) v d.place → Reader (g v) s r₁ t₁ r₂ t₂)
        → ((x : Refusal) → r₁ ≡ Err x → r₂ ≡ r₁) → Reader (seq f g) s r t r₂ t₂
    go (Ok c) (Ok d) (takes {v = v} a) k i = let b = k c d v refl refl (takes-ends a) in record { reads = then_reads a b.reads; ready = b.ready }
    go (Ok c) (Err x) (refuses a) k i = rw (i x refl) (record { reads = refuses (seq-refuses a); ready = tt })
    go (Err x) (Err z) skips k i = rw (i z refl) (record { reads = skips; ready = tt })
    go (Err x) (Ok d) x5 k i = elim x5 [ ]

module _ {ρ : Rule} {m k z : ℕ} {f g : Format} {s t t₁ t₂ : List ℕ} {r r₁ r₂ : Step} (h : Reader (listing ρ m k z f) s r t r₁ t₁) (j : Reader g s r₁ t₁ r₂ t₂) where
  -- what a question on the first list requires, at r₂
  pub first-behind : Ready s r → ListBehind f s r r₂
  first-behind i = list-behind i h j.ready (was-taken j.reads)

  first-ready : {l : List Value → List Ask} {q : Step} → ListAsked f l s r r₂ q → Ready s q
  first-ready {l} {q} a = go r₂ refl j.ready
    where
      go : (x : Step) → r₂ ≡ x → Ready s r₂ → Ready s q
      go (Ok d) y i =
          let e = was-taken j.reads d y in
          let c = was-taken h.reads e.0 e.1 in
          (asked-reader {l = l} {t = t₂} c.1 refl i a).ready
      go (Err x) y i = rw (a.stays x y ∙ y) tt

module _ {ρ ρ' : Rule} {m m' k k' z z' : ℕ} {f g : Format} {s t t₁ t₂ : List ℕ} {r r₁ r₂ : Step} (h : Reader (listing ρ m k z f) s r t r₁ t₁) (j : Reader (listing ρ' m' k' z' g) s r₁ t₁ r₂ t₂) where
  module _ {l : List Value → List Ask} {q : Step} (a : ListAsked f l s r r₂ q) where
    -- and of the second, after the questions on the first
    pub second-behind : ListBehind g s r₁ q
    second-behind = list-behind h.ready j (first-ready h j a) (λ d e. go r₂ refl d e)
      where
        go : (x : Step) → r₂ ≡ x → (d : Cursor) → q ≡ Ok d → (e : Cursor) × (r₂ ≡ Ok e)
        go (Ok c) y d e = (c, y)
        go (Err x) y d e = apart e (a.stays x y ∙ y)

    pub lists_ask : {l' : List Value → List Ask} {q' : Step} → ListAsked g l' s r₁ q q'
        → Reader (seq (listing ρ m k z f) (λ v. seq (listing ρ' m' k' z' g) (λ w. leaf (ask (l (entries v))) ▸ leaf (ask (l' (entries w)))))) s r t q' t₂
    lists_ask {l'} {q'} b =
        value_then h
        (λ c d v e i w.
        value_then j
        (λ c' d' v' e' i' w'.
        let x = asked-reader {l = l} {t = t₂} e (list-off ρ m k z f s c.place w).1 j.ready a in
        field_then x (λ _. asked-reader {l = l'} {t = t₂} e' (list-off ρ' m' k' z' g s c'.place w').1 x.ready b))
        (λ x y. stay x y))
        (λ x y. let o = still-refused j.reads x y in stay x (o ∙ y) ∙ o)
      where
        stay : (x : Refusal) → r₂ ≡ Err x → q' ≡ r₂
        stay x y = let o = a.stays x y in b.stays x (o ∙ y) ∙ o
