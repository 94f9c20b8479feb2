-- Where an artifact's parts stand, a name against the pack's bytes, and the invariant of the walk over the artifacts.
use Rattle.std.proofs.Common.{ℕ, ◌+◌, ◌-◌, ◌≤◌, ◌<◌, ◌≡◌, refl, ap, sym, ◌∙◌, subst, List, [], ◌∷◌, Bool, true, false, ◌&&◌, Ok, Err, arith, length, eqb, bytes_eq, slice_range}
use Rattle.format.specs.Trace.{pick}
use Rattle.format.specs.Format.{text, content, first, second}
use Rattle.format.specs.Reading.{little, part, same}
use Rattle.format.proofs.TraceTheorems.{part_length}
use Rattle.vob24.specs.Refusals
use Rattle.vob24.specs.Settings.{Settings, max_pack_bytes}
use Rattle.vob24.specs.Grammar.{artifact}
use Rattle.vob24.specs.Calls as vob
use Rattle.reader.specs.Contract.{refusal}
use Rattle.reader.specs.declared.kinds.Kind.TheVariants.{NoSuchArtifact}
use Rattle.reader.specs.declared.Cursor.{Cursor}
use Rattle.in_place.specs.Walk.{Stands, value_at, next_at, items_at, parts, passed, items_more, items-none, stand-more}
use Rattle.in_place.specs.Contract.{Items, WordIs}
use Rattle.lookup.specs.Look.{IsName, Looks}

-- the length word of the payload of an artifact at p
abbrev payload_at : List ℕ → ℕ → ℕ
payload_at s p = p + 4 + little (part s p 4) + 4

-- An artifact that was read at p: its name, and its payload.
pub record ArtifactStands (set : Settings) (s : List ℕ) (p : ℕ) : Type 0 where
  pub name : content (first (value_at (artifact set) s p)) ≡ part s (p + 4) (little (part s p 4))
  pub payload : second (second (value_at (artifact set) s p)) ≡ text (payload_at s p + 4) (part s (payload_at s p + 4) (little (part s (payload_at s p) 4)))
  pub next : next_at (artifact set) s p ≡ payload_at s p + 4 + little (part s (payload_at s p) 4)
  pub room : payload_at s p + 4 + little (part s (payload_at s p) 4) ≤ length s

artifact-stands : {set : Settings} {s : List ℕ} {p : ℕ} → Stands (artifact set) s p → ArtifactStands set s p
unfolding artifact
artifact-stands {set} {s} {p} h =
    let a = parts h in
    let x = passed a.fore in
    let b = parts a.back in
    let y = passed b.fore in
    let z = passed b.back in
    let e = y.3 ∙ ap (λ q. q + 4) x.4 in
    record {
      name = ap (λ v. content (first v)) a.value ∙ ap content x.3;
      payload = ap (λ v. second (second v)) a.value ∙ ap second b.value ∙ z.2 ∙ ap (λ q. text (q + 4) (part s (q + 4) (little (part s q 4)))) e;
      next = a.next ∙ b.next ∙ z.3 ∙ ap (λ q. q + 4 + little (part s q 4)) e;
      room = subst (λ q. q + 4 + little (part s q 4) ≤ length s) e z.0;
    }

-- ---- a name against the pack's bytes

same-equal : (xs ys : List ℕ) → same xs ys ≡ bytes_eq xs ys
unfolding same pick
same-equal [] [] = refl
same-equal [] (y ∷ ys) = refl
same-equal (x ∷ xs) [] = refl
same-equal (x ∷ xs) (y ∷ ys) = rw (same-equal xs ys) (elim (eqb x y) as (λ d. pick d (bytes_eq xs ys) false ≡ (d && bytes_eq xs ys)) [ true ↦ refl | false ↦ refl ])

pub name-equal : {s : List ℕ} {p n : ℕ} {name : List ℕ} {q : Bool} → q ≡ bytes_eq (slice_range s p (p + n)) name → IsName s p n name q
name-equal {s} {p} {n} {name} i = let e : p + n - p ≡ n = omega arith in record { is = i ∙ rw e (sym (same-equal (part s p n) name)) }

-- ---- the walk

-- The first i artifacts did not have the name; the others stand from `at` on.
pub record Looking (set : Settings) (s : List ℕ) (from n : ℕ) (name : List ℕ) (c : Cursor) (at i : ℕ) : Type 0 where
  pub items : Items (artifact set) (n - i) s at
  pub rest : vob.look_in name (items_at (artifact set) n s from) c.place c.left ≡ vob.look_in name (items_at (artifact set) (n - i) s at) c.place c.left

module _ {set : Settings} {s : List ℕ} {from n : ℕ} {name : List ℕ} {c : Cursor} where
  module _ {at i : ℕ} (h : Looking set s from n name c at i) (l : i < n) where
    more : 0 < n - i
    more = omega arith

    pub looking-here : ArtifactStands set s at
    looking-here = artifact-stands (stand-more (artifact set) (n - i) s at more h.items.all).0

    step' : vob.look_in name (items_at (artifact set) n s from) c.place c.left
        ≡ pick (same (part s (at + 4) (little (part s at 4))) name) (vob.At (payload_at s at + 4) (little (part s (payload_at s at) 4))) (vob.look_in name (items_at (artifact set) (n - (i + 1)) s (payload_at s at + 4 + little (part s (payload_at s at) 4))) c.place c.left)
    unfolding vob.look_in
    step' =
        let a = looking-here in
        let e : length (part s (payload_at s at + 4) (little (part s (payload_at s at) 4))) ≡ little (part s (payload_at s at) 4) = part_length s (payload_at s at + 4) (little (part s (payload_at s at) 4)) a.room in
        let d : n - i - 1 ≡ n - (i + 1) = omega arith in
        h.rest ∙ rw (items_more (artifact set) (n - i) s at more, d, a.name, a.payload, e, a.next)

    -- as the code has it, with the two length words in hand
    module _ {a b : ℕ} (x : WordIs s at a) (y : WordIs s (at + 4 + a + 4) b) where
      pub looking-room : (at + 4 + a + 4 + 4 + b ≤ length s) × (length s ≤ max_pack_bytes)
      looking-room = let r = looking-here.room in (rw (y.is, x.is) r, h.items.small)

      pub looking-found : {d : Bool} → IsName s (at + 4) a name d → d ≡ true
          → Looks set s from n name c (Ok (record { start = at + 4 + a + 4 + 4; length = b }))
      unfolding pick
      looking-found m e =
          let f : same (part s (at + 4) (little (part s at 4))) name ≡ true = rw (← x.is) (sym m.is ∙ e) in
          record { is = rw (y.is, x.is) (sym (step' ∙ rw f)); room = record { fits = λ q j. let u : q ≡ record { start = at + 4 + a + 4 + 4; length = b } = cc in rw u looking-room.0 } }

      pub looking-on : {d : Bool} → IsName s (at + 4) a name d → d ≡ false
          → Looking set s from n name c (at + 4 + a + 4 + 4 + b) (i + 1)
      unfolding pick
      looking-on m e =
          let f : same (part s (at + 4) (little (part s at 4))) name ≡ false = rw (← x.is) (sym m.is ∙ e) in
          let d : n - i - 1 ≡ n - (i + 1) = omega arith in
          rw (y.is, x.is) (record { items = record { small = h.items.small; all = rw (looking-here.next, d) at (stand-more (artifact set) (n - i) s at more h.items.all).1 }; rest = step' ∙ rw f })

  pub looking-done : {at i : ℕ} → Looking set s from n name c at i → n ≤ i
      → Looks set s from n name c (Err (refusal NoSuchArtifact 0 0 0 c))
  unfolding vob.look_in
  looking-done {at} {i} h l = record { is = sym (h.rest ∙ rw (items-none (artifact set) (n - i) s at (omega arith))); room = record { fits = λ q j. let no : ⊥ = cc in absurd no } }
