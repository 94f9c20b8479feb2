-- Reading on to a section of what a whole reading has taken.
use Rattle.std.specs.Prelude.{Ok, Err}
use Rattle.std.specs.Result.{IsErrAnd}
use Prim.Native.Nat.{ℕ, suc, zero, min, ◌+◌, ◌<◌}
use mathlib.Core.Path.{◌≡◌, refl}
use mathlib.Core.List.{List, [], ◌∷◌}
use mathlib.Core.Bool.{Bool, true}
use native.Mathlib.Omega.{arith}
use native.Mathlib.Numerals.{add-one}
use lib.ListN.{length, get_or, drop}
use lib.Dec.{leb}
use borrow.Author.Tests.{le-leb}
use Rattle.format.specs.Format.{Value, first, second, number, Rule, count, Format, leaf, seq, times, entries}
use Rattle.format.specs.Reading.{trace}
use Rattle.format.specs.SettleTheorems.{settle-taken}
use Rattle.format.proofs.TraceTheorems.{seq-ends}
use Rattle.vob24.specs.Settings as of
use Rattle.vob24.specs.Settings.{Settings}
use Rattle.vob24.specs.Leaves.{str}
use Rattle.vob24.specs.Grammar as vob
use Rattle.vob24.specs.Grammar.{inline_sources, section, after_functions, sections, magic, version, pack, list, struct, interface, named_type, itab, runtime_type, constant, global, function, artifact, location, frame, inline_function, still_left, inline_frames, inline_functions}
use Rattle.vob24_data.specs.Sections.{section_of, functions_of}
use Rattle.vob24.specs.Fields.{after}
use Rattle.vob24.specs.Cost.{all_sections}
use Rattle.vob24_data.specs.declared.Section.{Section}
use Rattle.in_place.specs.Walk.{list-off}
use Rattle.reader.specs.Contract.{step_of, Ready, ReadyAt, Refuses, Reads, refuses, skips, Reader, ComesTo, ReadsOf, got, lost, NumberOf, On, Step, Read}
use Rattle.reader.specs.Accepted.{Accepted}
use Rattle.vob24_theorems.specs.RefusalNumbers.{sections-listed}
use Rattle.reader.proofs.Accepting.{accepted-next, accepted-on, on-accepted, on-next}
use Rattle.reader.proofs.Errors.{handed}
use Rattle.reader.proofs.Laws.{seq-refuses, then_reads, field_then, at-refused, comes-not, comes_then, comes-next, comes-last}
use Rattle.reader.specs.declared.Cursor.{Cursor}
use Rattle.reader.specs.declared.Refusal.{Refusal}
use Rattle.empty_lists.specs.Empty.{Zeros, PastEmpty}
use Rattle.empty_lists.proofs.Laws.{empty_read, empty_chain, empty_comes}
use Rattle.deserialize.specs.Parts.{format_of, functions_by, in_order, from_number, from_section, functions_before, count_of}
use Rattle.deserialize.specs.Reach.{Reaches, ListStands}

-- an empty list is within any limit
within-any : (n : ℕ) → leb 0 n ≡ true
within-any n = le-leb 0 n (omega arith)

-- ---- lists without entries
module _ (set : Settings) {s : List ℕ} {c d : Cursor} {t t' : List ℕ} (y : ReadyAt s c) where
  pub no-types : Zeros s c.place 5 → PastEmpty 5 c t d t'
      → ComesTo (from_section set 0 vob.structs) (from_section set 0 vob.well_known) s (Ok c) t (Ok d) t'
  unfolding section
  no-types z p =
      rw (p.is, p.writes) (comes-next (empty_read y z t 0 (omega arith) (struct set) refl) (comes-next (empty_read y z t 1 (omega arith) (interface set) refl) (comes-next (empty_read y z t 2 (omega arith) (named_type set) refl) (comes-next (empty_read y z t 3 (omega arith) (itab set) refl) (comes-last (empty_read y z t 4 (omega arith) (runtime_type set) refl))))))

  pub no_code : Zeros s c.place 3 → PastEmpty 3 c t d t'
      → ComesTo (from_section set 0 vob.constants) (from_section set 0 vob.externs) s (Ok c) t (Ok d) t'
  unfolding section
  no_code z p =
      rw (p.is, p.writes) (comes-next (empty_read y z t 0 (omega arith) constant refl) (comes-next (empty_read y z t 1 (omega arith) (global set) refl) (empty_comes y z t 2 (omega arith) (function set) refl)))

  pub no-artifacts : Zeros s c.place 5 → PastEmpty 5 c t d t' → (n : ℕ)
      → Reader (from_section set n vob.artifacts) s (Ok c) t (Ok d) t'
  unfolding section inline_frames inline_functions
  no-artifacts z p n =
      rw (p.is, p.writes) (field_then (empty_read y z t 0 (omega arith) (artifact set) (within-any set.artifacts)) (λ _. field_then (empty_read y z t 1 (omega arith) str refl) (λ _. field_then (empty_read y z t 2 (omega arith) (list set of.DebugLoc location) refl) (λ _. field_then (empty_read y z t 3 (omega arith) frame (within-any set.inline_records)) (λ _. empty_chain y z t 4 (omega arith) (inline_function set) still_left set.inline_records (within-any (min n set.inline_records)))))))

-- a part of which the rest takes a number in
pub number-comes : {f : Format} {of : Value → ℕ} (g : ℕ → Format) {s : List ℕ} {c : Cursor} {t t' : List ℕ} {q : Read ℕ}
    → NumberOf f of s c t q t' → ComesTo (seq f (λ v. g (of v))) (g (count_of q)) s (Ok c) t (step_of q) t'
number-comes g k = go k.reads k.ready
  where
    lose : {f e : Format} {h : Value → Format} {s : List ℕ} {c : Cursor} {x : Refusal} {t t₁ t₂ : List ℕ} {r : Step}
        → Refuses f s c x → Reads e s (Err x) t₁ r t₂ → Reads (seq f h) s (Ok c) t r t₂
    lose y skips = refuses (seq-refuses y)

    go : {f : Format} {of : Value → ℕ} {s : List ℕ} {c : Cursor} {t t' : List ℕ} {q : Read ℕ} → ReadsOf f of s c t q t'
        → Ready s (step_of q) → ComesTo (seq f (λ v. g (of v))) (g (count_of q)) s (Ok c) t (step_of q) t'
    go (got e h) r = record { rest = λ k. then_reads h (rw e at k); ready = r }
    go (lost h) r = record { rest = λ k. lose h k; ready = r }

-- refused before the number
pub lost-comes : {f : Format} (g : ℕ → Format) {s : List ℕ} {r : Step} {t : List ℕ} (q : Read ℕ) {x : Refusal}
    → r ≡ Err x → IsErrAnd q (λ y. y ≡ x) → ComesTo f (g (count_of q)) s r t (step_of q) t
lost-comes g q e i = rw (handed q i, e) (comes-not refl)

module _ {f : Format} (g : ℕ → Format) {s : List ℕ} {r : Step} {t t' : List ℕ} {q : Read ℕ} (k : ComesTo f (g (count_of q)) s r t (step_of q) t') where
  pub number-lost : {x : Refusal} {r' : Step} → q ≡ Err x → IsErrAnd r' (λ y. y ≡ x) → Reader f s r t r' t'
  number-lost {r' = r'} e i = rw (handed r' i) (comes_then (rw e at k) (at-refused refl))

-- ---- one section, by its name
module _ (set : Settings) {x : Section} (y : Section) (e : x ≡ y) {s : List ℕ} {r : Step} where
  pub section-at : {q : Step} {t t' : List ℕ} → Reader (format_of set y) s r t q t' → Reader (format_of set x) s r t q t'
  section-at h = rw e h

  pub accepted-section : {b : Bool} → Accepted b (format_of set x) s r → Accepted b (format_of set y) s r
  accepted-section g = rw e at g

-- ---- the road

-- a section that is not the last, and the rest
pub section-first : (set : Settings) (n : ℕ) (xs : List vob.Section) (i : ℕ) → suc i < length xs
    → in_order set n (drop i xs) ≡ seq (section set 0 (get_or xs i inline_sources)) (λ v. in_order set (functions_by n (get_or xs i inline_sources) v) (drop (suc i) xs))
section-first set n [] i h = absurd (omega arith)
section-first set n (x ∷ []) i h = absurd (omega arith)
section-first set n (x ∷ y ∷ xs) zero h = refl
section-first set n (x ∷ y ∷ xs) (suc i) h = section-first set n (y ∷ xs) i (omega arith)

after-second : (i : ℕ) (v : Value) → second (after i v) ≡ after (suc i) v
after-second zero v = refl
after-second (suc i) v = after-second i (second v)

-- THE invariant of the road: from r, where the sections begin, i of them have been read
pub record Along (set : Settings) (i : ℕ) (s : List ℕ) (r r' : Step) : Type 0 where
  pub on : (v : Value) (q l : ℕ) → On (sections set) s v q l r
      → On (from_number set (functions_before i v) i) s (after i v) q l r'
  pub accepted : Accepted true (sections set) s r
  pub ready : Ready s r'

module _ {set : Settings} {s : List ℕ} {r : Step} where
  pub along-start : Accepted true (sections set) s r → Ready s r → Along set 0 s r r
  unfolding sections after_functions section
  along-start g h = record { on = λ v q l o. o; accepted = g; ready = h }

  module _ {i : ℕ} {r₁ : Step} (x : Section) (h : i < 16) (a : Along set i s r r₁) (e : (section_of x ≡ get_or all_sections i inline_sources) × (functions_of x ≡ 0)) where
    here : (v : Value) (q l : ℕ) → On (sections set) s v q l r
        → On (seq (format_of set x) (λ w. from_number set (functions_by (functions_before i v) (get_or all_sections i inline_sources) w) (suc i))) s (after i v) q l r₁
    here v q l o = rw (e.1, e.0, ← (section-first set (functions_before i v) all_sections i (omega arith))) (a.on v q l o)

    pub along-accepted : Accepted true (format_of set x) s r₁
    along-accepted = let o = accepted-on (λ c e. record { number = λ w p l k. let z = sections-listed set s c.place c.left k in (z.least, omega (arith, z.most)) }) a.accepted in on-accepted (here o.0 o.1 o.2 o.3)

    pub along-more : {r₂ : Step} {t t' : List ℕ} → Reader (format_of set x) s r₁ t r₂ t' → Along set (i + 1) s r r₂
    along-more k = rw (add-one i) (record { on = λ v q l o. rw (← (after-second i v)) (on-next (here v q l o) k); accepted = a.accepted; ready = k.ready })

module _ (set : Settings) {s : List ℕ} {r r₁ r₂ : Step} {t t₁ t₂ : List ℕ} (a : Reader magic s r t r₁ t₁) (b : Reader version s r₁ t₁ r₂ t₂) where
  pub opened-accepted : Accepted true (pack set) s r → Accepted true (sections set) s r₂
  unfolding pack
  opened-accepted g = accepted-next b (accepted-next a g)

  pub along-reaches : {i k : ℕ} {r₃ : Step} → i ≡ k → Along set i s r₂ r₃ → Reaches set k s r r₃
  unfolding pack
  along-reaches e k = rw (← e) (record { on = λ v q l o. k.on (after 2 v) q l (on-next (on-next o a) b); ready = k.ready })

-- a list that stands first: its entries are what stands there
pub on_list : {ρ : Rule} {m k z : ℕ} {f : Format} {g : Value → Format} {s : List ℕ} {v : Value} {q l : ℕ} {r : Step}
    → On (seq (seq (leaf (count ρ m k z)) (λ v. times f (number v))) g) s v q l r → Ready s r
    → ListStands f (entries (first v)) s r
on_list {ρ} {m} {k} {z} {f} {g} {s} {v} {q} {l} {r} o y =
    let c = o.cursor in
    let e = ((settle-taken c.left (trace (seq (seq (leaf (count ρ m k z)) (λ v. times f (number v))) g) s c.place) v q l).0 o.settles).0 in
    let b = seq-ends (seq (leaf (count ρ m k z)) (λ v. times f (number v))) g s c.place e in
    let k = list-off ρ m k z f s c.place b.fore in
    let w : ReadyAt s c = rw o.is at y in
    record { cursor = c; is = o.is; count = k.0; items = record { small = w.small; all = k.2 }; entries = k.1 }
