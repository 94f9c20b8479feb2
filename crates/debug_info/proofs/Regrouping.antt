-- Parts read one after the other, grouped otherwise: the same words, the same place and budget, or the same refusal.
use Rattle.std.specs.Prelude.{Ok, Err}
use Prim.Native.Nat.{ℕ, suc, zero, ◌+◌, ◌*◌, ◌<◌, ◌^◌}
use mathlib.Core.Path.{◌≡◌, refl, ap, sym, ◌∙◌}
use mathlib.Core.List.{List}
use native.Mathlib.Omega.{arith}
use lib.ListN.{length, length-append}
use lib.Seq.{sets}
use Rattle.format.specs.Trace.{Settled, refused, taken, settle}
use Rattle.format.specs.Format.{Value, pair, number, Rule, count, Format, leaf, seq, ◌▸◌, chain, times}
use Rattle.format.specs.Reading.{little, part, trace}
use Rattle.format.specs.Record.{words}
use Rattle.format.specs.SettleTheorems.{then_s}
use Rattle.format.proofs.TraceTheorems.{leaf-ends, settle-seq}
use Rattle.vob24.specs.Leaves.{source_u32}
use Rattle.vob24.specs.Grammar as vob
use Rattle.reader.specs.Contract.{told, Ready, Takes, Refuses, Reads, takes, refuses, skips, Reader, NumberOf, Step, Read}
use Rattle.reader.specs.declared.Cursor.{Cursor}
use Rattle.reader.specs.declared.Refusal.{Refusal}
use Rattle.reader.proofs.Laws.{sets-append, takes-ends, ready_at, got_of, then_reads, then-takes, then-refuses, seq-refuses}
use Rattle.debug_info.specs.DebugInfo.{location_format}

-- A reading of a sequence is one of its first part, and then one of the rest.
data Parted (f : Format) (g : Value → Format) (s : List ℕ) (c : Cursor) (t : List ℕ) : Step → List ℕ → Type 0 where
  stops : {x : Refusal} {t' : List ℕ} → Refuses f s c x → Parted f g s c t (Err x) t'
  goes : {v : Value} {d : Cursor} {t₁ t' : List ℕ} {q : Step} → Takes f s c t v d t₁ → Reads (g v) s (Ok d) t₁ q t'
      → Parted f g s c t q t'

module _ (f : Format) (g : Value → Format) (s : List ℕ) (c : Cursor) (t : List ℕ) where
  first_taken : {v : Value} {p l : ℕ} → settle c.left (trace f s c.place) ≡ taken v p l
      → Takes f s c t v (record { place = p; left = l; at = c.at + length (words f v) }) (sets t c.at (words f v))
  first_taken e = record { settles = e; moves = refl; writes = refl }

  parted-taken : {v : Value} {d : Cursor} {t' : List ℕ} → Takes (seq f g) s c t v d t' → Parted f g s c t (Ok d) t'
  unfolding then_s words
  parted-taken {v} {d} {t'} h = go (settle c.left (trace f s c.place)) refl (sym (settle-seq c.left f g s c.place) ∙ h.settles)
    where
      go : (r : Settled Value) → settle c.left (trace f s c.place) ≡ r
          → then_s r (λ v q l. then_s (settle l (trace (g v) s q)) (λ w r m. taken (pair v w) r m)) ≡ taken v d.place d.left
          → Parted f g s c t (Ok d) t'
      go (refused w p l) e k = absurd (cc)
      go (taken a p l) e k = on (settle l (trace (g a) s p)) refl k
        where
          on : (r : Settled Value) → settle l (trace (g a) s p) ≡ r
              → then_s r (λ w r m. taken (pair a w) r m) ≡ taken v d.place d.left → Parted f g s c t (Ok d) t'
          on (refused w p' l') e' k' = absurd (cc)
          on (taken b p' l') e' k' =
              let i : p' ≡ d.place = cc in
              let j : l' ≡ d.left = cc in
              let y : v ≡ pair a b = cc in
              let m = rw y at h.moves in
              let w = rw y at h.writes in
              let k : Takes (g a) s (record { place = p; left = l; at = c.at + length (words f a) }) (sets t c.at (words f a)) b d t' =
              record { settles = rw (← i, ← j) e'; moves = m ∙ omega (arith, length-append (words f a) (words (g a) b)); writes = w ∙ sets-append t c.at (words f a) (words (g a) b) } in
              goes (first_taken e) (takes k)

  parted-refused : {x : Refusal} {t' : List ℕ} → Refuses (seq f g) s c x → Parted f g s c t (Err x) t'
  unfolding then_s
  parted-refused {x} {t'} h = go (settle c.left (trace f s c.place)) refl (sym (settle-seq c.left f g s c.place) ∙ h.settles)
    where
      go : (r : Settled Value) → settle c.left (trace f s c.place) ≡ r
          → then_s r (λ v q l. then_s (settle l (trace (g v) s q)) (λ w r m. taken (pair v w) r m)) ≡ told x
          → Parted f g s c t (Err x) t'
      go (refused w p l) e k = stops (record { settles = e ∙ k })
      go (taken a p l) e k = on (settle l (trace (g a) s p)) refl k
        where
          on : (r : Settled Value) → settle l (trace (g a) s p) ≡ r
              → then_s r (λ w r m. taken (pair a w) r m) ≡ told x
              → Parted f g s c t (Err x) t'
          on (refused w p' l') e' k' = goes (first_taken e) (refuses (record { settles = e' ∙ k' }))
          on (taken b p' l') e' k' = absurd (cc)

parted : {f : Format} {g : Value → Format} {s : List ℕ} {c : Cursor} {t t' : List ℕ} {q : Step}
    → Reads (seq f g) s (Ok c) t q t' → Parted f g s c t q t'
parted {f} {g} {s} {c} {t} (takes h) = parted-taken f g s c t h
parted {f} {g} {s} {c} {t} (refuses h) = parted-refused f g s c t h

-- From a reading of one format to one of another.
record Turned (f g : Format) : Type 0 where
  turn : (s : List ℕ) (c : Cursor) (t t' : List ℕ) (q : Step) → Reads f s (Ok c) t q t' → Reads g s (Ok c) t q t'

turned : {f g h : Format} → Turned f g → Turned g h → Turned f h
turned a b = record { turn = λ s c t t' q r. b.turn s c t t' q (a.turn s c t t' q r) }

turn-rest : {f g h : Format} → Turned g h → Turned (f ▸ g) (f ▸ h)
turn-rest {f} {g} {h} k = record { turn = λ s c t t' q r. go (parted r) }
  where
    go : {s : List ℕ} {c : Cursor} {t t' : List ℕ} {q : Step} → Parted f (λ _. g) s c t q t'
        → Reads (f ▸ h) s (Ok c) t q t'
    go (stops e) = refuses (seq-refuses e)
    go (goes e m) = then_reads e (k.turn _ _ _ _ _ m)

turn-left : {f g h : Format} → Turned (f ▸ (g ▸ h)) ((f ▸ g) ▸ h)
turn-left {f} {g} {h} = record { turn = λ s c t t' q r. go (parted r) }
  where
    on : {s : List ℕ} {c d : Cursor} {t t₁ t' : List ℕ} {v : Value} {q : Step} → Takes f s c t v d t₁
        → Parted g (λ _. h) s d t₁ q t' → Reads ((f ▸ g) ▸ h) s (Ok c) t q t'
    on e (stops k) = refuses (seq-refuses (then-refuses e k))
    on e (goes k m) = then_reads (then-takes e k) m

    go : {s : List ℕ} {c : Cursor} {t t' : List ℕ} {q : Step} → Parted f (λ _. g ▸ h) s c t q t'
        → Reads ((f ▸ g) ▸ h) s (Ok c) t q t'
    go (stops e) = refuses (seq-refuses (seq-refuses e))
    go (goes e m) = on e (parted m)

-- five numbers are a location
five : {rest : Format}
    → Turned (source_u32 ▸ (source_u32 ▸ (source_u32 ▸ (source_u32 ▸ (source_u32 ▸ rest))))) (location_format ▸ rest)
unfolding vob.location
five = turned (turn-rest (turn-rest (turn-rest turn-left))) (turned (turn-rest (turn-rest turn-left)) (turned (turn-rest turn-left) turn-left))

in-fives : (n : ℕ) → Turned (times source_u32 (n * 5)) (times location_format n)
unfolding chain
in-fives zero = record { turn = λ s c t t' q r. r }
in-fives (suc n) = let e : suc n * 5 ≡ suc (suc (suc (suc (suc (n * 5))))) = omega arith in rw e (turned five (turn-rest (in-fives n)))

-- Locations are their numbers, one after the other.
pub locations-of : (n : ℕ) {m : ℕ} {s : List ℕ} {r q : Step} {t t' : List ℕ} → m ≡ n * 5
    → Reader (times source_u32 m) s r t q t' → Reader (times location_format n) s r t q t'
locations-of n e h = record { reads = go (rw e at h.reads); ready = h.ready }
  where
    go : {s : List ℕ} {r q : Step} {t t' : List ℕ} → Reads (times source_u32 (n * 5)) s r t q t'
        → Reads (times location_format n) s r t q t'
    go skips = skips
    go (takes k) = (in-fives n).turn _ _ _ _ _ (takes k)
    go (refuses k) = (in-fives n).turn _ _ _ _ _ (refuses k)

-- a list's count is within the pack, so that five times as much is a 64-bit number
pub numbers_fit : {ρ : Rule} {k z : ℕ} {s : List ℕ} {r : Step} {c d : Cursor} {t t₁ : List ℕ} {q : Read ℕ} {n : ℕ}
    → Ready s r → r ≡ Ok c → q ≡ Ok (n, d) → NumberOf (leaf (count ρ 1 k z)) number s c t q t₁ → n * 5 < 2 ^ 64
unfolding trace
numbers_fit {ρ} {k} {z} {s} {r} {c} {d} {t} {t₁} {q} {n} y i e h =
    let g = got_of e h in
    let p = leaf-ends (count ρ 1 k z) s c.place (takes-ends g.takes) in
    let j : n ≡ little (part s c.place 4) = g.is ∙ ap number p.2 in
    omega (arith, p.0, (ready_at i y).small)
