-- The laws of a reading section by section.
use Rattle.std.specs.Prelude.{Ok, Err}
use Rattle.std.specs.Result.{IsErrAnd}
use Prim.Native.Nat.{ℕ, suc, zero, ◌+◌, ◌-◌, ◌≤◌, ◌<◌}
use mathlib.Core.Path.{◌≡◌, refl, ap, sym, ◌∙◌}
use mathlib.Core.List.{List}
use native.Mathlib.Omega.{arith}
use native.Mathlib.Numerals.{add-one}
use lib.ListN.{get_or}
use Rattle.format.specs.Format.{Value, first, second, Format, seq, counted}
use Rattle.format.specs.Reading.{trace}
use Rattle.format.specs.SettleTheorems.{settle-taken}
use Rattle.vob24.specs.Settings.{Settings}
use Rattle.vob24.specs.Grammar as vob
use Rattle.vob24.specs.Grammar.{inline_sources, section, after_functions, sections, magic, version, pack}
use Rattle.vob24.specs.Fields.{after}
use Rattle.vob24.specs.Cost.{all_sections, part_of}
use Rattle.vob24_data.specs.Sections.{section_of, functions_of, number_of}
use Rattle.vob24_data.specs.declared.Section.{Section}
use Rattle.reader.specs.Contract.{step_of, Ready, ReadyAt, Reads, takes, refuses, Reader, ComesTo, On, ReadsOf, got, lost, NumberOf, Step, Read}
use Rattle.reader.proofs.Errors.{handed}
use Rattle.reader.proofs.Accepting.{on-next}
use Rattle.reader.proofs.Laws.{field_reads, at-refused, comes-not, comes_then, comes-on, comes-next}
use Rattle.reader.specs.declared.Cursor.{Cursor}
use Rattle.reader.specs.declared.Refusal.{Refusal}
use Rattle.in_place.specs.Walk.{Stands, value_at, stand, parts}
use Rattle.deserialize.specs.Parts.{format_of, functions_by, from_number, count_of}
use Rattle.deserialize.proofs.Laws.{section-first, number-comes}
use Rattle.reach.specs.Reach.{Between, with_number, place_of, SectionAt, Reaches}

-- ---- one section

-- the functions alone, the tenth, change the number of functions
others_keep : (i : ℕ) → (i ≡ 9 → ⊥) → (n : ℕ) (v : Value) → functions_by n (get_or all_sections i inline_sources) v ≡ n
others_keep zero h n v = refl
others_keep (suc zero) h n v = refl
others_keep (suc (suc zero)) h n v = refl
others_keep (suc (suc (suc zero))) h n v = refl
others_keep (suc (suc (suc (suc zero)))) h n v = refl
others_keep (suc (suc (suc (suc (suc zero))))) h n v = refl
others_keep (suc (suc (suc (suc (suc (suc zero)))))) h n v = refl
others_keep (suc (suc (suc (suc (suc (suc (suc zero))))))) h n v = refl
others_keep (suc (suc (suc (suc (suc (suc (suc (suc zero)))))))) h n v = refl
others_keep (suc (suc (suc (suc (suc (suc (suc (suc (suc zero))))))))) h n v = absurd (h refl)
others_keep (suc (suc (suc (suc (suc (suc (suc (suc (suc (suc zero)))))))))) h n v = refl
others_keep (suc (suc (suc (suc (suc (suc (suc (suc (suc (suc (suc zero))))))))))) h n v = refl
others_keep (suc (suc (suc (suc (suc (suc (suc (suc (suc (suc (suc (suc zero)))))))))))) h n v = refl
others_keep (suc (suc (suc (suc (suc (suc (suc (suc (suc (suc (suc (suc (suc zero))))))))))))) h n v = refl
others_keep (suc (suc (suc (suc (suc (suc (suc (suc (suc (suc (suc (suc (suc (suc zero)))))))))))))) h n v = refl
others_keep (suc (suc (suc (suc (suc (suc (suc (suc (suc (suc (suc (suc (suc (suc (suc zero))))))))))))))) h n v = refl
others_keep (suc (suc (suc (suc (suc (suc (suc (suc (suc (suc (suc (suc (suc (suc (suc (suc zero)))))))))))))))) h n v = refl
others_keep (suc (suc (suc (suc (suc (suc (suc (suc (suc (suc (suc (suc (suc (suc (suc (suc (suc i))))))))))))))))) h n v = refl

-- an answer without its number, and the number
step-of : (n : ℕ) (r : Step) → step_of (with_number n r) ≡ r
step-of n (Ok c) = refl
step-of n (Err x) = refl

after-after : (m n : ℕ) (v : Value) → after n (after m v) ≡ after (m + n) v
after-after zero n v = let e : 0 + n ≡ n = omega arith in rw e
after-after (suc m) n v = let e : suc m + n ≡ suc (m + n) = omega arith in after-after m n (second v) ∙ rw e

-- the functions, read as any section is
stepped : {f : Format} {of : Value → ℕ} {s : List ℕ} {c : Cursor} {t t' : List ℕ} {q : Read ℕ} → NumberOf f of s c t q t'
    → Reader f s (Ok c) t (step_of q) t'
stepped h = record { reads = go h.reads; ready = h.ready }
  where
    go : {f : Format} {of : Value → ℕ} {s : List ℕ} {c : Cursor} {t t' : List ℕ} {q : Read ℕ} → ReadsOf f of s c t q t'
        → Reads f s (Ok c) t (step_of q) t'
    go (got e k) = takes k
    go (lost k) = refuses k

-- In a pack that is taken, a section read is followed by the next.
on-section : (set : Settings) {s : List ℕ} {i : ℕ} (x : vob.Section) {r r' : Step} {t t' : List ℕ}
    → x ≡ get_or all_sections i inline_sources → i < 16 → Reader (section set 0 x) s r t r' t' → (m : ℕ) (v : Value) (p l : ℕ)
    → On (from_number set m i) s v p l r → (k : ℕ) × On (from_number set k (i + 1)) s (after (i + 1 - i) v) p l r'
on-section set {s} {i} x y h r m v p l o =
    let j : i + 1 - i ≡ 1 = omega arith in
    let o' = rw (section-first set m all_sections i (omega arith), ← y) at o in
    (functions_by m x (first v), rw (j, add-one i) (on-next o' r))

-- A section other than the functions leaves the number as it was.
comes-section : (set : Settings) {s : List ℕ} {i : ℕ} (n : ℕ) (x : vob.Section) {c : Cursor} {r : Step} {t t' : List ℕ}
    → x ≡ get_or all_sections i inline_sources → i < 16 → (i ≡ 9 → ⊥) → Reader (section set 0 x) s (Ok c) t r t'
    → ComesTo (from_number set n i) (from_number set (count_of (with_number n r)) (i + 1)) s (Ok c) t (step_of (with_number n r)) t'
comes-section set {s} {i} n x {c} {r} {t} {t'} y h w k = rw (section-first set n all_sections i (omega arith), ← y, add-one i) (go r k)
  where
    keeps : (v : Value) → functions_by n x v ≡ n
    keeps v = rw y (others_keep i w n v)

    go : (r : Step) → Reader (section set 0 x) s (Ok c) t r t'
        → ComesTo (seq (section set 0 x) (λ v. from_number set (functions_by n x v) (suc i))) (from_number set (count_of (with_number n r)) (suc i)) s (Ok c) t (step_of (with_number n r)) t'
    go (Ok d) k = record { rest = λ m. field_reads k.reads (λ v. rw (keeps v) m); ready = k.ready }
    go (Err z) k = record { rest = λ m. field_reads k.reads (λ v. (comes-not refl).rest m); ready = tt }

module _ (set : Settings) {s : List ℕ} where
  -- what is refused stays so
  pub between-refused : {a b : ℕ} {q d : Read ℕ} {x : Refusal} {t : List ℕ} → q ≡ Err x → IsErrAnd d (λ y. y ≡ x)
      → Between set a b s q t d t
  between-refused {d = d} e i = rw (handed d i, e) (record { comes = comes-not refl; on = λ n v p l o. absurd (cc o.is) })

  module _ {i n : ℕ} {q d : Read ℕ} {c : Cursor} {t t' : List ℕ} (e : q ≡ Ok (n, c)) where
    -- the functions
    pub between-functions : i ≡ 9 → NumberOf (section set 0 vob.functions) counted s c t d t'
        → Between set i (i + 1) s q t d t'
    between-functions y h =
        rw (e, y) (record {
          comes = number-comes (λ k. from_number set k 10) h;
          on = on-section set {i = 9} vob.functions refl (omega arith) (stepped h);
        })

    -- any other
    pub between-other : (x : Section) {r : Step} → (i ≡ 9 → ⊥) → i < 16
        → (section_of x ≡ get_or all_sections i inline_sources) × (functions_of x ≡ 0)
        → Reader (format_of set x) s (Ok c) t r t' → d ≡ with_number n r → Between set i (i + 1) s q t d t'
    between-other x {r} y h w k z =
        let k' : Reader (section set 0 (section_of x)) s (Ok c) t r t' = rw w.1 at k in
        rw (e, z) (record { comes = comes-section set n (section_of x) w.0 h y k'; on = rw (step-of n r) (on-section set (section_of x) w.0 h k') })

  pub got-ready : {q : Read ℕ} {n : ℕ} {c : Cursor} → q ≡ Ok (n, c) → Ready s (step_of q) → ReadyAt s c
  got-ready e y = rw e at y

  -- ---- sections in a row

  pub between_start : {a : ℕ} {q : Read ℕ} {t : List ℕ} → Ready s (step_of q) → Between set a a s q t q t
  between_start {a} y =
      record {
        comes = record { rest = λ k. k; ready = y };
        on = λ n v p l o. let e : a - a ≡ 0 = omega arith in (n, rw e o);
      }

  pub between_more : {a b c : ℕ} {q d e : Read ℕ} {t t₁ t₂ : List ℕ} → a ≤ b → b ≤ c → Between set a b s q t d t₁
      → Between set b c s d t₁ e t₂ → Between set a c s q t e t₂
  between_more {a} {b} {c} h i x y =
      record {
        comes = comes-on x.comes y.comes;
        on = λ n v p l o.
            let k = x.on n v p l o in
            let m = y.on k.0 (after (b - a) v) p l k.1 in
            let j : b - a + (c - b) ≡ c - a = omega arith in
            (m.0, rw (after-after (b - a) (c - b) v, j) at m.1);
      }

  pub between-end : {a b c : ℕ} {q d : Read ℕ} {t t' : List ℕ} → b ≡ c → Between set a b s q t d t'
      → Between set a c s q t d t'
  between-end e x = rw (← e) x

-- ---- the whole pack

place-taken : (q : Read ℕ) {c : Cursor} → step_of q ≡ Ok c → place_of q ≡ c.place
place-taken (Ok (n, d)) {c} e = let i : d ≡ c = cc in rw i
place-taken (Err x) e = absurd (cc)

-- what was read there, whole or as the first part
on-all : {f : Format} {s : List ℕ} {v : Value} {p l : ℕ} {r : Step} (o : On f s v p l r)
    → Stands f s o.cursor.place × (value_at f s o.cursor.place ≡ v)
on-all {f} {s} {v} {p} {l} o =
    let c = o.cursor in
    let a = stand ((settle-taken c.left (trace f s c.place) v p l).0 o.settles).0 in
    (a.stands, a.value)

on-first : {f : Format} {g : Value → Format} {s : List ℕ} {v : Value} {p l : ℕ} {r : Step} (o : On (seq f g) s v p l r)
    → Stands f s o.cursor.place × (value_at f s o.cursor.place ≡ first v)
on-first o = let a = on-all o in let b = parts a.0 in (b.fore, ap first (sym b.value ∙ a.1))

module _ (set : Settings) {s : List ℕ} {p l : ℕ} (q : Read ℕ) where
  first-at : (x : vob.Section) {g : Value → Format} {w : Value} → On (seq (section set 0 x) g) s w p l (step_of q)
      → SectionAt set x s (place_of q) (first w)
  first-at x o = let a = on-first o in rw (place-taken q o.is) (record { functions = 0; stands = a.0; value = a.1 })

  section-reached : (n : ℕ) (v : Value) (x : vob.Section)
      → On (from_number set n (number_of x)) s (after (number_of x) (after 2 v)) p l (step_of q)
      → SectionAt set x s (place_of q) (part_of x v)
  unfolding part_of
  section-reached n v vob.name o = first-at vob.name o
  section-reached n v vob.structs o = first-at vob.structs o
  section-reached n v vob.interfaces o = first-at vob.interfaces o
  section-reached n v vob.named_types o = first-at vob.named_types o
  section-reached n v vob.itabs o = first-at vob.itabs o
  section-reached n v vob.runtime_types o = first-at vob.runtime_types o
  section-reached n v vob.well_known o = first-at vob.well_known o
  section-reached n v vob.constants o = first-at vob.constants o
  section-reached n v vob.globals o = first-at vob.globals o
  section-reached n v vob.functions o = first-at vob.functions o
  section-reached n v vob.externs o = first-at vob.externs o
  section-reached n v vob.entry o = first-at vob.entry o
  section-reached n v vob.island_init o = first-at vob.island_init o
  section-reached n v vob.artifacts o = first-at vob.artifacts o
  section-reached n v vob.files o = first-at vob.files o
  section-reached n v vob.function_locations o = first-at vob.function_locations o
  section-reached n v vob.inline_sources o = let a = on-all o in rw (place-taken q o.is) (record { functions = n; stands = a.0; value = a.1 })

module _ (set : Settings) (to : Section) {s : List ℕ} {r r₁ r₂ : Step} {t t₁ t₂ t₃ t₄ : List ℕ} {i : ℕ} {start at last : Read ℕ} (a : Reader magic s r t r₁ t₁) (b : Reader version s r₁ t₁ r₂ t₂) (e : start ≡ with_number 0 r₂) where
  module _ (h : (i ≡ number_of (section_of to)) × (i ≤ 16)) (x : Between set 0 i s start t₂ at t₃) (y : Between set i 16 s at t₃ last t₄) where
    whole-comes : ComesTo (pack set) (from_number set (count_of last) 16) s r t (step_of last) t₄
    unfolding pack sections after_functions section
    whole-comes = comes-next a (comes-next b (comes-on (rw (e, step-of 0 r₂) at x.comes) y.comes))

    reached-stands : (v : Value) (p l : ℕ) → On (pack set) s v p l r → SectionAt set (section_of to) s (place_of at) (part_of (section_of to) v)
    unfolding pack sections after_functions section
    reached-stands v p l o =
        let k = x.on 0 (after 2 v) p l (rw (e, step-of 0 r₂) (on-next (on-next o a) b)) in
        let j : i - 0 ≡ i = omega arith in
        section-reached set at k.0 v (section_of to) (rw (j, h.0) at k.1)

    pub reached-not : {z : Refusal} {p : ℕ} → last ≡ Err z → p ≡ place_of at
        → Reaches set (section_of to) s r t (record { section = p; end = Err z }) t₄
    reached-not f w = rw w (record { reader = comes_then (rw f at whole-comes) (at-refused refl); stands = reached-stands })

    pub reached-whole : {n : ℕ} {c : Cursor} {d : Step} {p : ℕ} {t₅ : List ℕ} → last ≡ Ok (n, c) → p ≡ place_of at
        → Reader (section set n inline_sources) s (Ok c) t₄ d t₅
        → Reaches set (section_of to) s r t (record { section = p; end = d }) t₅
    reached-whole f w k = rw w (record { reader = comes_then (rw f at whole-comes) k; stands = reached-stands })
