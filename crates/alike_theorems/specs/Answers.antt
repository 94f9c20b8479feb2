-- The call on alike names: what it answers to every pack.
use Rattle.std.specs.Prelude.{ℕ, ◌+◌, ◌≤◌, ◌<◌, refl, true, ◌↔◌, length}
use Rattle.std.proofs.Math.Path.{◌≡◌, ap}
use Rattle.std.proofs.Common.{sym, ◌∙◌, arith}
use mathlib.Core.List.{List, flatten, Memᴰ}
use Rattle.format.specs.Trace.{Wrong, Ends, Settled, refused, taken, settle}
use Rattle.format.specs.Format.{Value, start, content}
use Rattle.format.specs.Reading.{part, trace}
use Rattle.format.specs.SettleTheorems.{settle-taken}
use Rattle.vob24.specs.Utf8.{well_formed}
use Rattle.vob24.specs.Settings.{Settings, starting_budget}
use Rattle.vob24.specs.Grammar.{pack}
use Rattle.vob24.specs.Calls.{whole_trace}
use Rattle.vob24_theorems.specs.Theorems.{whole-reads, whole-end}
use Rattle.vob24_theorems.specs.RefusalNumbers.{Listed, whole-listed}
use Rattle.alike.specs.Decompositions.{alike}
use Rattle.alike.specs.Alike as names
use Rattle.alike.specs.Alike.{Names, pair_in, tables, Answer, Pair, None, Not, shown, answering, alike_outcome}
use Rattle.alike_theorems.specs.Order.{InOrder, order-lies, names-in-order}
use Rattle.alike_theorems.specs.Pairs.{PairOf, Described, pair-there, pair-alike, pair-order, none-iff, described-iff, one-partner}
use Rattle.alike_theorems.specs.NewNames.{tables-new, pair-differ}

-- An answer is a pair, none, or a refusal, which has the number of a question that is put to a file.
pub data Alikes : Answer → Type 0 where
  some : {a m b n : ℕ} → Alikes (Pair a m b n)
  none : Alikes None
  missed : {w : Wrong} {p l : ℕ} → Listed w → Alikes (Not w p l)

-- "Names in an answer are start and length": of the pair that is described.
pub record Spans (ts : List (List Value)) (a m b n : ℕ) : Type 0 where
  pub earlier : Value
  pub later : Value
  pub described : Described (PairOf ts) earlier later
  pub earlier_start : a ≡ start earlier
  pub earlier_length : m ≡ length (content earlier)
  pub later_start : b ≡ start later
  pub later_length : n ≡ length (content later)

-- a search shows a pair, or none
shown-not : (n : Names) {w : Wrong} {p l : ℕ} → shown n ≡ Not w p l → ⊥
shown-not names.none e = let no : ◌≡◌ {A = ℕ} 0 1 = cc in omega arith
shown-not (names.pair x y) e = let no : ◌≡◌ {A = ℕ} 0 1 = cc in omega arith

shown-none : (n : Names) → (shown n ≡ None) ↔ (n ≡ names.none)
shown-none n = (go n, λ e. ap shown e)
  where
    go : (n : Names) → shown n ≡ None → n ≡ names.none
    go names.none e = refl
    go (names.pair x y) e = let no : ◌≡◌ {A = ℕ} 0 1 = cc in absurd (omega arith)

module _ {s : List ℕ} {p q : ℕ} (ts : List (List Value)) (o : InOrder s p (flatten ts) q) (a m b n : ℕ) where
  shown-pair : (shown (pair_in ts) ≡ Pair a m b n) ↔ Spans ts a m b n
  shown-pair = (λ e. to (pair_in ts) refl e, from)
    where
      to : (x : Names) → pair_in ts ≡ x → shown x ≡ Pair a m b n → Spans ts a m b n
      to names.none i e = let no : ◌≡◌ {A = ℕ} 0 1 = cc in absurd (omega arith)
      to (names.pair x y) i e = record {
        earlier = x;
        later = y;
        described = (described-iff ts o x y).0 i;
        earlier_start = cc;
        earlier_length = cc;
        later_start = cc;
        later_length = cc;
      }

      from : Spans ts a m b n → shown (pair_in ts) ≡ Pair a m b n
      from h = ap shown ((described-iff ts o h.earlier h.later).1 h.described) ∙ cc

module _ (set : Settings) (s : List ℕ) where
  -- A pack that is refused under the Rust's starting budget shows its refusal, and no other pack shows one.
  pub alike-refused : {w : Wrong} {p l : ℕ}
      → (settle starting_budget (whole_trace set s) ≡ refused w p l) ↔ (alike_outcome set s ≡ Not w p l)
  unfolding alike_outcome
  alike-refused {w} {p} {l} = (λ e. ap answering e, go (settle starting_budget (whole_trace set s)))
    where
      go : (r : Settled Value) → answering r ≡ Not w p l → r ≡ refused w p l
      go (refused w' p' l') e = cc
      go (taken v p' l') e = absurd (shown-not (pair_in (tables v)) e)

  module _ {v : Value} {p l : ℕ} (e : settle starting_budget (whole_trace set s) ≡ taken v p l) where
    is-shown : alike_outcome set s ≡ shown (pair_in (tables v))
    unfolding alike_outcome
    is-shown = ap answering e

    read : Ends (trace (pack set) s 0) v (length s)
    read =
        let h = ((settle-taken starting_budget (whole_trace set s) v p l).0 e).0 in
        let i = whole-end set s h in
        rw (← i) ((whole-reads set s).inner h).0

    in_order : InOrder s 0 (flatten (tables v)) (length s)
    in_order = names-in-order set s read

    -- "The answer is the pair whose later name ends earliest in the file, with the earlier name nearest to it"
    pub alike-described : (a m b n : ℕ) → (alike_outcome set s ≡ Pair a m b n) ↔ Spans (tables v) a m b n
    alike-described a m b n = rw is-shown (shown-pair (tables v) in_order a m b n)

    -- "or none exactly if no pair exists"
    pub alike-none : (alike_outcome set s ≡ None) ↔ ((x y : Value) → PairOf (tables v) x y → ⊥)
    alike-none = (
      λ h. (none-iff (tables v)).0 ((shown-none (pair_in (tables v))).0 (sym is-shown ∙ h)),
      λ h. is-shown ∙ ap shown ((none-iff (tables v)).1 h),
    )

    module _ {a m b n : ℕ} (h : Spans (tables v) a m b n) where
      there : Memᴰ h.earlier (flatten (tables v)) × Memᴰ h.later (flatten (tables v))
      there = pair-there h.described.is

      -- Both spans lie within the pack, one behind the other, and their bytes are the names.
      pub spans-within : (a + m < b) × (b + n ≤ length s)
      spans-within = (
        omega (arith, pair-order (tables v) in_order h.described.is),
        omega (arith, (order-lies in_order there.1).to),
      )

      pub spans-names : (part s a m ≡ content h.earlier) × (part s b n ≡ content h.later)
      spans-names = (
        rw (h.earlier_start, h.earlier_length) (order-lies in_order there.0).bytes,
        rw (h.later_start, h.later_length) (order-lies in_order there.1).bytes,
      )

      -- They are well-formed.
      pub spans-text : (well_formed (content h.earlier) ≡ true) × (well_formed (content h.later) ≡ true)
      spans-text = ((order-lies in_order there.0).text, (order-lies in_order there.1).text)

      -- "Reading itself goes on comparing bytes": their bytes differ.
      pub spans-differ : part s a m ≡ part s b n → ⊥
      spans-differ i =
          pair-differ (tables-new set s read) h.described.is (sym spans-names.0 ∙ i ∙ spans-names.1)

      -- The later name has no other earlier partner.
      pub spans-one-partner : (x : Value) → PairOf (tables v) x h.later → x ≡ h.earlier
      spans-one-partner x i = one-partner (tables v) in_order h.described i

  -- A pair is answered of a pack that is taken, and its spans lie within it.
  pub alike-taken : {a m b n : ℕ} → alike_outcome set s ≡ Pair a m b n
      → (v : Value) × (p : ℕ) × (l : ℕ) × (settle starting_budget (whole_trace set s) ≡ taken v p l)
  unfolding alike_outcome
  alike-taken {a} {m} {b} {n} = go (settle starting_budget (whole_trace set s))
    where
      go : (r : Settled Value) → answering r ≡ Pair a m b n → (v : Value) × (p : ℕ) × (l : ℕ) × (r ≡ taken v p l)
      go (refused w p l) e = let no : ◌≡◌ {A = ℕ} 0 1 = cc in absurd (omega arith)
      go (taken v p l) e = (v, p, l, refl)

  pub alike-within : {a m b n : ℕ} → alike_outcome set s ≡ Pair a m b n
      → (a + m ≤ length s) × (b + n ≤ length s) × (a + m < b)
  alike-within {a} {m} {b} {n} e =
      let r = alike-taken e in
      let i = spans-within r.3 ((alike-described r.3 a m b n).0 e) in
      (omega arith, i.1, i.0)

  -- and their bytes are alike
  pub spans-alike : {a m b n : ℕ} → alike_outcome set s ≡ Pair a m b n → alike (part s a m) (part s b n) ≡ true
  spans-alike {a} {m} {b} {n} e =
      let r = alike-taken e in
      let h = (alike-described r.3 a m b n).0 e in
      let i = spans-names r.3 h in
      rw (i.0, i.1) (pair-alike h.described.is)

  -- Every answer is one of the three.
  pub alike-numbered : Alikes (alike_outcome set s)
  alike-numbered = go (alike_outcome set s) refl
    where
      go : (r : Answer) → alike_outcome set s ≡ r → Alikes (alike_outcome set s)
      go (Pair a m b n) e = rw e some
      go None e = rw e none
      go (Not w p l) e = rw e (missed (whole-listed set s starting_budget (alike-refused.1 e)))
