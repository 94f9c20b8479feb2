-- Request 2, names that print alike: what a caller knows of the answer q that `alike_names(pack)` gives. s is the pack;
-- set the sizes and limits, which for the call are `settings`.
use Rattle.std.specs.Prelude.{ℕ, ◌+◌, ◌≤◌, ◌<◌, ◌≡◌, true, Option, Result, ◌⊎◌, ◌↔◌, length}
use Rattle.std.proofs.Common.{sym, ◌∙◌}
use mathlib.Core.List.{List, [], ◌∷◌, ◌++◌, Memᴰ}
use Rattle.format.specs.Trace.{Wrong, refused, taken}
use Rattle.format.specs.Format.{Value, content}
use Rattle.format.specs.Reading.{part}
use Rattle.format.proofs.LayoutTheorems.{same-eq}
use Rattle.vob24.specs.Utf8.{well_formed}
use Rattle.vob24.specs.Settings.{Settings}
use Rattle.alike.specs.Decompositions.{decompositions, base_of, mark_of, decomposed, fold, scalars, alike}
use Rattle.alike.proofs.Table as table
use Rattle.alike.specs.Table.{RowOf}
use Rattle.alike.specs.Alike.{tables, Pair, None, Not, alike_outcome}
use Rattle.folding.specs.Bytes.{fold_bytes}
use Rattle.alike_theorems.specs.Characters.{encode_all}
use Rattle.alike_theorems.specs.Folds as folds
use Rattle.alike_theorems.specs.FoldedBytes as bytes
use Rattle.alike_theorems.specs.Pairs.{PairOf}
use Rattle.alike_theorems.specs.Answers as spec
use Rattle.alike_theorems.specs.Answers.{Alikes, Spans}
use Rattle.alike_names.specs.Contract.{answer_of, AlikeCall}
use Rattle.alike_names.specs.declared.AlikeNames.{AlikeNames}
use Rattle.reader.specs.declared.Refusal.{Refusal}
use Rattle.promises.specs.Lookup.{reread}

-- ---- the letters

-- "The letters U+00C0 to U+017F that have a canonical decomposition in UnicodeData.txt are replaced by it"
pub replaced-by : {c : ℕ} (r : RowOf decompositions c) → decomposed c ≡ base_of r.row ∷ mark_of r.row ∷ []
replaced-by r = table.letter-decomposed r

-- "every other character stays"
pub stays : {c : ℕ} → (RowOf decompositions c → ⊥) → decomposed c ≡ c ∷ []
stays n = table.other-stays n

pub outside-stays : (c : ℕ) → (c < 0xc0) ⊎ (0x17f < c) → decomposed c ≡ c ∷ []
outside-stays c h = table.decomposed-outside c h

pub all_stay : (cs : List ℕ) → ((c : ℕ) → Memᴰ c cs → RowOf decompositions c → ⊥) → fold cs ≡ cs
all_stay cs n = folds.no-letter-folds cs n

-- "marks are not reordered": each character is replaced where it stands.
pub in_place : (x y : List ℕ) → fold (x ++ y) ≡ fold x ++ fold y
in_place x y = folds.fold-append x y

-- What was replaced has no letter to replace.
pub once : (cs : List ℕ) → fold (fold cs) ≡ fold cs
once cs = folds.fold-twice cs

-- "two names of one table equal after this": by characters, and for well-formed names by bytes.
pub alike-characters : (x y : List ℕ) → (alike x y ≡ true) ↔ (fold (scalars x) ≡ fold (scalars y))
alike-characters x y = folds.alike-iff x y

module _ (x : List ℕ) (h : well_formed x ≡ true) where
  pub folded-bytes : fold_bytes x ≡ encode_all (fold (scalars x))
  folded-bytes = bytes.folded-bytes x h

  pub folded-well-formed : well_formed (fold_bytes x) ≡ true
  folded-well-formed = bytes.folded-bytes-well-formed x h

  pub alike-bytes : (y : List ℕ) → well_formed y ≡ true → (alike x y ≡ true) ↔ (fold_bytes x ≡ fold_bytes y)
  alike-bytes y k =
      let e = bytes.alike-bytes x y h k in (
        λ i. same-eq (fold_bytes x) (fold_bytes y) (rw (sym e ∙ i) tt),
        λ i. e ∙ folds.same_true (fold_bytes x) (fold_bytes y) i,
      )

-- ---- the answer

module _ {set : Settings} {s : List ℕ} {q : Result (Option AlikeNames) Refusal} (call : AlikeCall set s q) where
  -- Demand 1: a pair, none, or "refused with one number of document 01".
  pub one_answer : Alikes (answer_of q)
  one_answer = rw call.is (spec.alike-numbered set s)

  -- A pack that is refused shows its refusal, and no other pack shows one.
  pub shows-refusal : {x : Wrong} {p l : ℕ} → (reread set s ≡ refused x p l) ↔ (answer_of q ≡ Not x p l)
  shows-refusal = rw call.is (spec.alike-refused set s)

  -- "In a pack that passes"
  module _ {v : Value} {p l : ℕ} (e : reread set s ≡ taken v p l) where
    -- "The answer is the pair whose later name ends earliest in the file, with the earlier name nearest to it"
    pub the-pair : (a m b n : ℕ) → (answer_of q ≡ Pair a m b n) ↔ Spans (tables v) a m b n
    the-pair a m b n = rw call.is (spec.alike-described set s e a m b n)

    -- "or none exactly if no pair exists"
    pub no-pair : (answer_of q ≡ None) ↔ ((x y : Value) → PairOf (tables v) x y → ⊥)
    no-pair = rw call.is (spec.alike-none set s e)

    module _ {a m b n : ℕ} (h : answer_of q ≡ Pair a m b n) where
      abbrev pub spans : Spans (tables v) a m b n
      spans = (the-pair a m b n).0 h

      -- "Names in an answer are start and length": the bytes there are those of two names of one table.
      pub names : PairOf (tables v) spans.earlier spans.later
          × (part s a m ≡ content spans.earlier) × (part s b n ≡ content spans.later)
      names = let i = spec.spans-names set s e spans in (spans.described.is, i.0, i.1)

      -- The later name has no other partner before it.
      pub one-partner : (x : Value) → PairOf (tables v) x spans.later → x ≡ spans.earlier
      one-partner x i = spec.spans-one-partner set s e spans x i

  -- a pair that is answered, whatever else is known of the pack
  module _ {a m b n : ℕ} (h : answer_of q ≡ Pair a m b n) where
    outcome : alike_outcome set s ≡ Pair a m b n
    outcome = sym call.is ∙ h

    -- "In a pack that passes"
    pub passes : (v : Value) × (p : ℕ) × (l : ℕ) × (reread set s ≡ taken v p l)
    passes = spec.alike-taken set s outcome

    -- Both names lie within the pack, and the earlier ends before the later starts.
    pub lie-within : (a + m ≤ length s) × (b + n ≤ length s) × (a + m < b)
    lie-within = spec.alike-within set s outcome

    -- "equal after this": by their characters, and by their bytes, which are well-formed.
    pub are-alike : alike (part s a m) (part s b n) ≡ true
    are-alike = spec.spans-alike set s outcome

    pub well-formed : (well_formed (part s a m) ≡ true) × (well_formed (part s b n) ≡ true)
    well-formed = let e = passes.3 in rw ((names e h).1, (names e h).2) (spec.spans-text set s e (spans e h))

    pub same-folded : fold_bytes (part s a m) ≡ fold_bytes (part s b n)
    same-folded = (alike-bytes (part s a m) well-formed.0 (part s b n) well-formed.1).0 are-alike

    -- "Reading itself goes on comparing bytes": names of one table that passed have not the same, nor has a pair.
    pub differ : part s a m ≡ part s b n → ⊥
    differ = let e = passes.3 in spec.spans-differ set s e (spans e h)
