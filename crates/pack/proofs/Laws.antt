-- The lookup, and names alike, in a pack that a whole reading has taken.
use Rattle.std.specs.Result.{IsErrAnd}
use Rattle.std.proofs.Common.{ℕ, ◌≡◌, ◌∙◌, List, Option, Result, Ok, Err, length}
use Rattle.format.specs.Trace.{refused, taken, settle}
use Rattle.format.specs.SettleTheorems.{settle-taken}
use Rattle.format.specs.Format.{Value, entries}
use Rattle.format.specs.Reading.{trace}
use Rattle.vob24.specs.Settings.{Settings, starting_budget}
use Rattle.vob24.specs.Calls.{whole_trace, find_outcome}
use Rattle.vob24.specs.Grammar.{artifacts, section, pack, artifact}
use Rattle.vob24_data.specs.Sections.{number_of}
use Rattle.vob24.specs.Cost.{part_of}
use Rattle.calls.specs.Contract.{from, Opens, Ends}
use Rattle.calls.proofs.Laws.{Passed, passed, denied, read-passed}
use Rattle.lookup.specs.Look.{ArtifactsAt, LooksFrom, LocateCall}
use Rattle.alike.specs.Alike.{alike_outcome}
use Rattle.in_place.specs.Walk.{value_at, stand}
use Rattle.in_place.specs.Contract.{Placed}
use Rattle.alike_names.specs.Contract.{AlikeCall, AlikeIn}
use Rattle.alike_names.specs.declared.AlikeNames.{AlikeNames}
use Rattle.reader.proofs.Errors.{handed}
use Rattle.reader.specs.Contract.{told, Ready, Reader, On, Step}
use Rattle.reader.specs.declared.Cursor.{Cursor}
use Rattle.reader.specs.declared.Refusal.{Refusal}
use Rattle.reader.specs.declared.Span.{Span}
use Rattle.deserialize.specs.Reach.{Reaches, ListStands}
use Rattle.deserialize.proofs.Laws.{on_list}
use Rattle.pack.specs.Find.{Whole, Located}

module _ {set : Settings} {s : List ℕ} {r r' : Step} {c : Cursor} (w : Whole set s r c) (h : Reaches set (number_of artifacts) s r r') where
  at-artifacts : (v : Value) → On (pack set) s v c.place c.left r
      → ListStands (artifact set) (entries (part_of artifacts v)) s r'
  unfolding section part_of
  at-artifacts v o = on_list (h.on v c.place c.left o) h.ready

  -- a pack that was taken is not refused on the way
  pub located-refused : {name : List ℕ} {x : Refusal} {q : Result Span Refusal} → r' ≡ Err x → Located set s r name c q
  located-refused e = let k = at-artifacts w.value w.on in let no : ⊥ = cc k.is in absurd no

  module _ {a : Cursor} (e : r' ≡ Ok a) where
    pub located-counted : ArtifactsAt set s a.place
    located-counted = let k = at-artifacts w.value w.on in let i : k.cursor ≡ a = cc k.is in rw (← i) (record { count = k.count; items = k.items })

    pub located-look : {name : List ℕ} {q : Result Span Refusal} → LooksFrom set s a.place name c q → Located set s r name c q
    located-look l = record { is = λ v o. let k = at-artifacts v o in let i : k.cursor ≡ a = cc k.is in l.looks.is ∙ rw (k.entries, i); room = l.looks.room }

module _ (set : Settings) {s : List ℕ} {r : Step} where
  whole_of : {b : ℕ} {c : Cursor} {r' : Step} → Passed (pack set) (whole_trace set s) s 0 b r r' → r' ≡ Ok c
      → Ready s r → (w : Whole set s r c) × (settle b (whole_trace set s) ≡ taken w.value c.place c.left)
  whole_of {b} {c} (passed {v = v} {c = d} o i k m) e y =
      let x : d ≡ c = cc in
      let k' : settle b (trace (pack set) s 0) ≡ taken v c.place c.left = rw x at k in
      let i' : settle b (whole_trace set s) ≡ taken v c.place c.left = rw x at i in
      (record { value = v; on = record { cursor = from 0 b; is = o; settles = k' }; ready = y }, i')
  whole_of (denied i) e y = let no : ⊥ = cc in absurd no

  denied-of : {b : ℕ} {x : Refusal} {r' : Step} → Passed (pack set) (whole_trace set s) s 0 b r r' → r' ≡ Err x
      → settle b (whole_trace set s) ≡ told x
  denied-of (denied {x = y} i) e = i ∙ cc
  denied-of (passed o i k m) e = let no : ⊥ = cc in absurd no

module _ (set : Settings) {s : List ℕ} {r₀ r r' : Step} {t e : List ℕ} (o : Opens s 0 starting_budget r₀) (k : Reader (pack set) s r₀ t r e) (g : Ends (length s) r r') where
  pub locate-whole : {c : Cursor} → r' ≡ Ok c → Whole set s r₀ c
  locate-whole i = (whole_of set (read-passed set o k g) i o.ready).0

  pub locate-found : {name : List ℕ} {c : Cursor} {q : Result Span Refusal} → r' ≡ Ok c → Located set s r₀ name c q
      → LocateCall set s name q
  unfolding find_outcome
  locate-found i l = let w = whole_of set (read-passed set o k g) i o.ready in record { is = l.is w.0.value w.0.on ∙ rw w.1; room = l.room }

  pub locate-refused : {name : List ℕ} {x : Refusal} {q : Result Span Refusal} → r' ≡ Err x
      → IsErrAnd q (λ y. y ≡ x) → LocateCall set s name q
  unfolding find_outcome
  locate-refused {q = q} i j = rw (handed q j) (record { is = rw (denied-of set (read-passed set o k g) i); room = record { fits = λ y l. let no : ⊥ = cc in absurd no } })

-- ---- names alike

-- A pack that was taken: its value, and that it stands in the file.
record Stood (set : Settings) (s : List ℕ) (b : ℕ) (c : Cursor) : Type 0 where
  value : Value
  settles : settle b (whole_trace set s) ≡ taken value c.place c.left
  placed : Placed (pack set) s 0
  is : value_at (pack set) s 0 ≡ value

stood : (set : Settings) {s : List ℕ} {r : Step} {b : ℕ} {c : Cursor} {r' : Step} → Passed (pack set) (whole_trace set s) s 0 b r r'
    → r' ≡ Ok c → Ready s r → Stood set s b c
stood set {s} {r} {b} {c} (passed {v = v} {c = d} o i k m) e y =
    let x : d ≡ c = cc in
    let a = stand ((settle-taken b (trace (pack set) s 0) v d.place d.left).0 k).0 in
    let z : Ready s (Ok (from 0 b)) = rw o at y in
    record { value = v; settles = rw x at i; placed = record { small = z.small; stands = a.stands }; is = a.value }
stood set (denied i) e y = let no : ⊥ = cc in absurd no

module _ (set : Settings) {s : List ℕ} {r₀ r r' : Step} {t e : List ℕ} (o : Opens s 0 starting_budget r₀) (k : Reader (pack set) s r₀ t r e) (g : Ends (length s) r r') where
  pub alike-placed : {c : Cursor} → r' ≡ Ok c → Placed (pack set) s 0
  alike-placed i = (stood set (read-passed set o k g) i o.ready).placed

  pub alike-found : {c : Cursor} {q : Option AlikeNames} → r' ≡ Ok c → AlikeIn set s q → AlikeCall set s (Ok q)
  unfolding alike_outcome
  alike-found i l = let w = stood set (read-passed set o k g) i o.ready in record { is = l.is ∙ rw (w.is, w.settles) }

  pub alike-refused : {x : Refusal} {q : Result (Option AlikeNames) Refusal} → r' ≡ Err x → IsErrAnd q (λ y. y ≡ x)
      → AlikeCall set s q
  unfolding alike_outcome
  alike-refused {q = q} i j = rw (handed q j) (record { is = rw (denied-of set (read-passed set o k g) i) })
