-- The demands, of the lookup: what a caller knows of the answer q that `locate_artifact(pack, name)` gives, and of the
-- part that `find_artifact(pack, name)` returns. s is the pack; set the sizes and limits, which for both are
-- `settings`.
use Rattle.std.specs.Prelude.{ℕ, ◌+◌, ◌-◌, ◌≤◌, ◌≡◌, refl, List, [], Result, Ok, Err, ◌↔◌, length}
use Rattle.std.proofs.Common.{ap, ◌∙◌, arith}
use Rattle.format.specs.Trace.{Wrong, wrong, total, Settled, refused, taken, settle}
use Rattle.format.specs.Format.{Value, start, content, entries}
use Rattle.format.specs.Layout.{Bytes}
use Rattle.format.specs.SettleTheorems.{settle-taken}
use Rattle.vob24.specs.Refusals
use Rattle.vob24.specs.Settings.{Settings, ExternDef, size_of, starting_budget}
use Rattle.vob24.specs.Grammar.{artifacts}
use Rattle.vob24.specs.Cost.{part_of, pack_cost}
use Rattle.vob24.proofs.PackCost.{pack-costs}
use Rattle.vob24.specs.Calls.{At, Not, found_part}
use Rattle.vob24_theorems.specs.Theorems.{whole-reads, whole-layout}
use Rattle.vob24_theorems.specs.LookupTheorems as spec
use Rattle.vob24_theorems.specs.LookupTheorems.{NoneNamed, FirstNamed, payload_of}
use Rattle.vob24_theorems.specs.RefusalNumbers.{Looked, find-numbered, whole-listed}
use Rattle.vob24_theorems.specs.HostCalls.{Claims, some-claim, Counts, base_find, find-claims, find-as-before}
use Rattle.lookup.specs.Look.{found_of, Room, LocateCall, FindCall}
use Rattle.reader.specs.declared.Refusal.{Refusal}
use Rattle.reader.specs.declared.Span.{Span}
use Rattle.promises.specs.Common.{ends-cost}
use Rattle.promises.specs.Pack.{charges, LaysOut}

-- "The lookup .. rereads it under the Rust's starting budget."
abbrev pub reread : Settings → List ℕ → Settled Value
reread set s = settle starting_budget (charges set s)

abbrev pub artifacts_of : Value → List Value
artifacts_of v = entries (part_of artifacts v)

-- The packs that are looked in: the layouts of valid values whose cost is within that budget.
pub looked-in : (set : Settings) (s : List ℕ) (v : Value) → Bytes s
    → ((p l : ℕ) × (reread set s ≡ taken v p l)) ↔ (LaysOut set s v × (pack_cost set v ≤ starting_budget))
looked-in set s v bs = (
  λ h.
      let r = (settle-taken starting_budget (charges set s) v h.0 h.1).0 h.2 in
      let i = (whole-layout set s v h.0 bs).0 r.0 in
      ((i.0, i.1, i.2), omega (arith, r.1, ends-cost (whole-reads set s) (pack-costs set) r.0)),
  λ h.
      let e = (whole-layout set s v (length s) bs).1 (h.0.0, h.0.1, h.0.2, refl) in
      let c = ends-cost (whole-reads set s) (pack-costs set) e in
      (length s, _, (settle-taken starting_budget (charges set s) v (length s) (starting_budget - total (charges set s))).1 (e, omega arith, refl)),
)

-- "Its companion gives start and length, or the refusal."
module _ {set : Settings} {s name : List ℕ} {q : Result Span Refusal} (call : LocateCall set s name q) where
  -- Demand 1: found, or "refused with one number of document 01".
  pub one_answer : Looked (found_of q)
  one_answer = rw call.is (find-numbered set s name)

  -- What is found lies within the pack.
  pub places : {p n : ℕ} → found_of q ≡ At p n → p + n ≤ length s
  places = go q call.room
    where
      go : (q : Result Span Refusal) → Room s q → {p n : ℕ} → found_of q ≡ At p n → p + n ≤ length s
      go (Ok x) r {p} {n} e = let a : x.start ≡ p = cc in let b : x.length ≡ n = cc in omega (arith, r.fits x refl)
      go (Err x) r e = let no : ⊥ = cc in absurd no

  -- A pack that is refused shows its refusal.
  pub located-refused : {x : Wrong} {p l : ℕ} → reread set s ≡ refused x p l → found_of q ≡ Not x p l
  located-refused e = call.is ∙ (spec.find-refused set s name e).0

  -- "the payload of the first artifact with exactly these name bytes"
  pub located-first : {v : Value} {p l : ℕ} → reread set s ≡ taken v p l → {a : Value}
      → FirstNamed name a (artifacts_of v)
      → found_of q ≡ At (start (payload_of a)) (length (content (payload_of a)))
  located-first e f = call.is ∙ spec.find_first set s name e f

  -- "Such an artifact? 27 NoSuchArtifact": where no artifact has the name, and only there.
  pub located-none : {v : Value} {p l : ℕ} → reread set s ≡ taken v p l → NoneNamed name (artifacts_of v)
      → found_of q ≡ Not (wrong Refusals.no_such_artifact 0) p l
  located-none e n = call.is ∙ spec.find_none set s name e n

  pub located-none-only : {x : Wrong} {p l : ℕ} → found_of q ≡ Not x p l → x.number ≡ Refusals.no_such_artifact
      → (v : Value) × (reread set s ≡ taken v p l) × NoneNamed name (artifacts_of v)
  located-none-only {x} {p} {l} e n = go (reread set s) refl
    where
      go : (r : Settled Value) → reread set s ≡ r
          → (v : Value) × (reread set s ≡ taken v p l) × NoneNamed name (artifacts_of v)
      go (refused y i j) h =
          let k = located-refused h in
          let same : y ≡ x = cc in
          absurd (omega (arith, (whole-listed set s starting_budget h).most, ap (λ w. w.number) same))
      go (taken v i j) h = by (spec.find-looked set s name h).0
        where
          by : spec.Looked name (artifacts_of v) i j
              → (v : Value) × (reread set s ≡ taken v p l) × NoneNamed name (artifacts_of v)
          by (spec.missing k c) =
              let z = located-none h k in
              let at : i ≡ p = cc in
              let left : j ≡ l = cc in
              (v, rw (← at, ← left) h, k)
          by (spec.first' a f c) = let z = located-first h f in let no : ◌≡◌ {A = ℕ} 0 1 = cc in absurd (omega arith)

  -- Request 1: a pack with n externs shows its refusal; every other answer is the base's.
  pub host-calls : {p l n : ℕ} → Counts set s starting_budget p l n → 1 ≤ n
      → (x : Wrong) × (m : ℕ) × Claims (size_of set ExternDef) n (p + 4) (length s) l x m × (found_of q ≡ Not x (p + 4) m)
  host-calls {p} {l} {n} c i =
      let k = some-claim (size_of set ExternDef) n (p + 4) (length s) l in
      (k.0, k.1, k.2, call.is ∙ (find-claims set s name c i k.2).0)

  pub as_before : ((p l n : ℕ) → Counts set s starting_budget p l n → n ≡ 0) → found_of q ≡ base_find set s name
  as_before h = call.is ∙ find-as-before set s name h

-- "returns the payload .. as a part of the caller's slice; when refused, an empty part": its bytes.
module _ {set : Settings} {s name part : List ℕ} (call : FindCall set s name part) where
  pub found-refused : {x : Wrong} {p l : ℕ} → reread set s ≡ refused x p l → part ≡ []
  found-refused e = call.is ∙ (spec.find-refused set s name e).1

  module _ {v : Value} {p l : ℕ} (e : reread set s ≡ taken v p l) where
    pub found_first : {a : Value} → FirstNamed name a (artifacts_of v) → part ≡ content (payload_of a)
    found_first f = call.is ∙ spec.find-part set s name e f

    pub found_none : NoneNamed name (artifacts_of v) → part ≡ []
    found_none n = call.is ∙ ap (found_part s) (spec.find_none set s name e n)
