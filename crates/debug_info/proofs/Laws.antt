-- The laws of the inline functions: a list whose items share a limit.
use Rattle.std.specs.Prelude.{ℕ, ◌+◌, ◌-◌, ◌≤◌, ◌<◌, ◌≡◌, min, List, length, Ok, Err}
use Rattle.std.specs.Result.{IsErrAnd}
use Rattle.std.proofs.Common.{refl, ap, ◌∙◌, arith}
use lib.Dec.{leb→le}
use Rattle.format.specs.Format.{Value, number, second, Format, count, ◌▸◌, chain, times}
use Rattle.format.specs.Reading.{little, part, trace}
use Rattle.format.proofs.TraceTheorems.{leaf-ends, seq-ends}
use Rattle.vob24.specs.Refusals.{debug_metadata_limit_exceeded, inline_frames, inline_entries, inline_functions, vector}
use Rattle.vob24.specs.Settings as of
use Rattle.vob24.specs.Settings.{Settings, size_of}
use Rattle.vob24.specs.Leaves.{u32, limit, list_of}
use Rattle.vob24.specs.Grammar as vob
use Rattle.fields.specs.Fields.{debug_count}
use Rattle.reader.specs.Contract.{Reader, ReadsOf, got, lost, NumberOf, Step, Read}
use Rattle.reader.specs.declared.Cursor.{Cursor}
use Rattle.reader.specs.declared.Refusal.{Refusal}
use Rattle.reader.proofs.Laws.{takes-ends, then-takes, then-refuses, GotOf, got_of, at-step, number_then, Chained, chained_more, chained-not}
use Rattle.reader.proofs.Parts.{part_not}
use Rattle.debug_info.specs.DebugInfo.{entry_format, function_format, entries_of, function_list}

-- the limit of the frames, as `inline_records` hands it out
pub frames-at : (set : Settings) {m : ℕ} {s : List ℕ} {c : Cursor} {q : Read ℕ} {t t₁ : List ℕ} → m ≡ set.inline_records
    → NumberOf (debug_count set inline_frames m of.InlineSourceFrame) number s c t q t₁
    → NumberOf (debug_count set inline_frames set.inline_records of.InlineSourceFrame) number s c t q t₁
frames-at set l h = rw l at h

-- a number, and another one: the answer is the second
pub second-number : {f g : Format} {of : Value → ℕ} (of' : Value → ℕ) {s : List ℕ} {c d : Cursor} {p q : Read ℕ} {m : ℕ} {t t₁ t₂ : List ℕ}
    → p ≡ Ok (m, d) → NumberOf f of s c t p t₁ → NumberOf g of' s d t₁ q t₂
    → NumberOf (f ▸ g) (λ v. of' (second v)) s c t q t₂
second-number {f} {g} {of} of' {s} {c} {d} {p} {q} {m} {t} {t₁} {t₂} e h k = record { reads = go (got_of e h) k.reads; ready = k.ready }
  where
    go : {q : Read ℕ} → GotOf f of s c t m d t₁ → ReadsOf g of' s d t₁ q t₂ → ReadsOf (f ▸ g) (λ v. of' (second v)) s c t q t₂
    go a (got i w) = got i (then-takes a.takes w)
    go a (lost w) = lost (then-refuses a.takes w)

-- the entries are within the limit
pub function-most : (set : Settings) {l : ℕ} {s : List ℕ} {c d : Cursor} {t t₁ : List ℕ} {q : Read ℕ} {n : ℕ}
    → q ≡ Ok (n, d) → NumberOf (function_format set l) entries_of s c t q t₁ → n ≤ l
unfolding vob.inline_function trace
function-most set {l} {s} {c} {d} {t} {t₁} {q} {n} e h =
    let g = got_of e h in
    let a = seq-ends u32 (λ _. list_of (limit debug_metadata_limit_exceeded inline_entries l) (size_of set of.InlineSourceEntry) entry_format) s c.place (takes-ends g.takes) in
    let b = seq-ends (debug_count set inline_entries l of.InlineSourceEntry) (λ v. times entry_format (number v)) s a.mid a.back in
    let p = leaf-ends (count (limit debug_metadata_limit_exceeded inline_entries l) 1 vector (size_of set of.InlineSourceEntry)) s a.mid b.fore in
    let i : n ≡ little (part s a.mid 4) = g.is ∙ ap number p.2 in
    omega (arith, leb→le (little (part s a.mid 4)) l p.1)

-- the answers of `inline_functions`
abbrev pub Sharing : Settings → List ℕ → List ℕ → Cursor → ℕ → ℕ → List ℕ → Cursor → ℕ → ℕ → Type 0
Sharing set s t₀ c₀ x₀ n t c x k = Chained (function_format set) vob.still_left s t₀ (Ok c₀) x₀ n t (Ok c) x k

-- one more of n functions, i of which are read
module _ (set : Settings) {s t₀ : List ℕ} {c₀ : Cursor} {x₀ n i : ℕ} {t t₁ : List ℕ} {c : Cursor} {x : ℕ} {q : Read ℕ} (h : i < n) (l : Sharing set s t₀ c₀ x₀ n t c x (n - i)) (p : NumberOf (function_format set x) entries_of s c t q t₁) where
  left : 0 < n - i
  left = omega arith

  pub sharing-more : {d : Cursor} {m : ℕ} → q ≡ Ok (m, d) → length t₁ ≡ length t
      → Sharing set s t₀ c₀ x₀ n t₁ d (x - m) (n - (i + 1))
  sharing-more e j =
      let w : n - i - 1 ≡ n - (i + 1) = omega arith in
      rw w at (chained_more left entries_of (λ x m. x - m) (λ v. refl) e l p j)

  pub sharing-lost : {z : Refusal} {r : Step} → q ≡ Err z → IsErrAnd r (λ y. y ≡ z)
      → Reader (chain (function_format set) vob.still_left x₀ n) s (Ok c₀) t₀ r t₁
  sharing-lost e k = chained-not left entries_of e k l p

pub sharing-many : (set : Settings) (a : ℕ) {m b : ℕ} {s : List ℕ} {c : Cursor} {q : Read ℕ} {x : Refusal} {r r₁ : Step} {t t₁ t₂ : List ℕ}
    → r ≡ Ok c → m ≡ set.inline_records → b ≡ min a m → q ≡ Err x → IsErrAnd r₁ (λ y. y ≡ x)
    → NumberOf (debug_count set inline_functions b of.InlineFunctionSources) number s c t q t₁
    → Reader (function_list set a) s r t r₁ t₂
unfolding vob.inline_functions
sharing-many set a y l w e i h = part_not y e i (rw (w, l) at h)

-- what stands behind the count of the functions
pub sharing-rest : (set : Settings) (a : ℕ) {m b : ℕ} {s : List ℕ} {c d : Cursor} {q : Read ℕ} {n : ℕ} {r r₁ : Step} {t t₁ t₂ : List ℕ}
    → r ≡ Ok c → m ≡ set.inline_records → b ≡ min a m → q ≡ Ok (n, d)
    → NumberOf (debug_count set inline_functions b of.InlineFunctionSources) number s c t q t₁
    → Reader (chain (function_format set) vob.still_left m n) s (Ok d) t₁ r₁ t₂
    → Reader (function_list set a) s r t r₁ t₂
unfolding vob.inline_functions
sharing-rest set a y l w e h k =
    at-step y (number_then (λ n. chain (function_format set) vob.still_left set.inline_records n) e (rw (w, l) at h) (rw l at k))
