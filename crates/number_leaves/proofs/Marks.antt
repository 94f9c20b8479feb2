-- The laws of magic and version: what each answer of their codes has to show.
use Rattle.std.specs.Prelude.{Ok, Err}
use Rattle.std.specs.Result.{IsErrAnd}
use Prim.Native.Nat.{ℕ, ◌+◌, ◌≤◌}
use mathlib.Core.Path.{◌≡◌, refl, ap, sym, ◌∙◌}
use mathlib.Core.List.{List, [], ◌∷◌}
use mathlib.Core.Bool.{Bool, true, false}
use lib.ListN.{length}
use Rattle.format.specs.Trace.{Wrong, wrong, refused, settle, pick}
use Rattle.format.specs.Format.{mark}
use Rattle.format.specs.Reading.{little, part, same, trace_leaf}
use Rattle.format.specs.Layout.{digits}
use Rattle.format.proofs.TraceTheorems.{part_length}
use Rattle.format.proofs.LayoutTheorems.{digits-little, same-eq}
use Rattle.vob24.specs.Refusals.{invalid_magic, unsupported_version}
use Rattle.vob24.specs.Leaves.{magic_mark, version_mark}
use Rattle.reader.specs.Contract.{told, Step, Read}
use Rattle.reader.specs.Leaves.{past, Short, Chunk, FetchesBytes, chunk, short_chunk, Fetched, Fetches, Denied, Marks, marked, unmarked}
use Rattle.reader.specs.declared.Cursor.{Cursor}
use Rattle.reader.specs.declared.Refusal.{Refusal}
use Rattle.reader.proofs.Settles.{guard-yes, guard-no, field-yes, field-no}
use Rattle.reader.proofs.Errors.{handed}
use Rattle.reader.proofs.Leaves.{fetched, shorts}

-- any mark, by its bytes
module _ {m : List ℕ} {y : ℕ → Wrong} {s : List ℕ} {c : Cursor} where
  mark-few : {x : Refusal} → Short (length m) s c x → Denied (mark m y) s c x
  unfolding trace_leaf
  mark-few h = record { settles = field-no c.left (length m) s c.place _ h.room ∙ sym h.is }

  mark-other : {x : Refusal} → c.place + length m ≤ length s → same (part s c.place (length m)) m ≡ false
      → told x ≡ refused (y (little (part s c.place (length m)))) (c.place + length m) c.left → Denied (mark m y) s c x
  unfolding trace_leaf
  mark-other h e i = record { settles = field-yes c.left (length m) s c.place _ h ∙ guard-no c.left _ _ _ e ∙ sym i }

  mark-same : c.place + length m ≤ length s → same (part s c.place (length m)) m ≡ true
      → Marks (mark m y) s c (Ok (past (length m) c))
  unfolding trace_leaf settle
  mark-same h e = marked {d = past (length m) c} (field-yes c.left (length m) s c.place _ h ∙ guard-yes c.left _ _ _ e) refl

abbrev vob : List ℕ
vob = 86 ∷ 79 ∷ 66 ∷ []

module _ {s : List ℕ} {c : Cursor} {q : Read (List ℕ)} (h : FetchesBytes 3 s c q) where
  pub magic-short : {r : Step} {x : Refusal} → q ≡ Err x → IsErrAnd r (λ y. y ≡ x) → Marks magic_mark s c r
  magic-short {r} {x} e i = rw (handed r i) (go (rw e at h))
    where
      go : FetchesBytes 3 s c (Err x) → Marks magic_mark s c (Err x)
      go (short_chunk a) = unmarked (mark-few a)

  module _ {bs : List ℕ} {d : Cursor} (e : q ≡ Ok (bs, d)) where
    chunked : Chunk 3 s c bs d
    chunked = go (rw e at h)
      where
        go : FetchesBytes 3 s c (Ok (bs, d)) → Chunk 3 s c bs d
        go (chunk a) = a

    pub magic-got : bs ≡ vob → Marks magic_mark s c (Ok d)
    unfolding same pick
    magic-got i = let a = chunked in rw a.next (mark-same a.room (rw (← a.is, i) refl))

    pub magic-other : {x : Refusal} → (bs ≡ vob → ⊥) → told x ≡ refused (wrong invalid_magic 0) d.place d.left
        → Marks magic_mark s c (Err x)
    magic-other i j = let a = chunked in unmarked (mark-other a.room (go (same (part s c.place 3) vob) refl) (rw a.next at j))
      where
        go : (b : Bool) → same (part s c.place 3) vob ≡ b → b ≡ false
        go true j = absurd (i (chunked.is ∙ same-eq (part s c.place 3) vob (rw j tt)))
        go false j = refl

-- four bytes are those of 24 exactly where their number is
abbrev twenty_four : List ℕ
twenty_four = 24 ∷ 0 ∷ 0 ∷ 0 ∷ []

same_version : {s : List ℕ} {c d : Cursor} {n : ℕ} → Fetched 4 s c n d → n ≡ 24
    → same (part s c.place 4) twenty_four ≡ true
unfolding same pick digits
same_version {s} {c} f e =
    let l = part_length s c.place 4 f.room in
    let g = (digits-little (part s c.place 4) f.bytes).0 in
    let i : digits 4 24 ≡ part s c.place 4 = ap (digits 4) (sym e ∙ f.is) ∙ (rw l at g) in
    rw (← i)

other-version : {s : List ℕ} {c d : Cursor} {n : ℕ} → Fetched 4 s c n d → (n ≡ 24 → ⊥)
    → same (part s c.place 4) twenty_four ≡ false
unfolding little
other-version {s} {c} {d} {n} f e = go (same (part s c.place 4) twenty_four) refl
  where
    go : (b : Bool) → same (part s c.place 4) twenty_four ≡ b → b ≡ false
    go true i = let j = same-eq (part s c.place 4) twenty_four (rw i tt) in absurd (e (f.is ∙ ap little j))
    go false i = refl

module _ {s : List ℕ} {c : Cursor} {q : Read ℕ} where
  pub version-short : {x : Refusal} {r : Step} → q ≡ Err x → IsErrAnd r (λ y. y ≡ x) → Fetches 4 s c q → Marks version_mark s c r
  version-short {r = r} e i h = rw (handed r i) (unmarked (mark-few (shorts e h)))

  module _ {n : ℕ} {d : Cursor} (e : q ≡ Ok (n, d)) (h : Fetches 4 s c q) where
    pub version-no : {x : Refusal} → (n ≡ 24 → ⊥) → told x ≡ refused (wrong unsupported_version n) d.place d.left
        → Marks version_mark s c (Err x)
    version-no i j =
        let f = fetched e h in
        unmarked (mark-other {m = twenty_four} {y = λ n. wrong unsupported_version n} f.room (other-version f i) (rw (f.next, f.is) at j))

    pub version-got : n ≡ 24 → Marks version_mark s c (Ok d)
    version-got i = let f = fetched e h in rw f.next (mark-same f.room (same_version f i))

pub ruleset marks = (version-short, version-no, version-got)
