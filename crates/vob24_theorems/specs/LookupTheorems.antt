-- The lookup's promises: the payload of the first artifact with exactly these name bytes, and 27 exactly where no
-- artifact has them.
use Rattle.std.specs.Prelude.{ℕ, suc, zero, ◌≡◌, refl, List, [], ◌∷◌, Bool, true, false, length, T}
use Rattle.std.proofs.Math.Path.{ap}
use Rattle.std.proofs.Common.{◌∙◌, arith}
use Rattle.format.specs.Trace.{Wrong, wrong, pick, refused, taken, settle}
use Rattle.format.specs.Format.{Value, none, num, text, pair, content, start, first, second, number, items, entries}
use Rattle.format.specs.Reading.{part, same}
use Rattle.format.specs.Record.{Held}
use Rattle.format.specs.SettleTheorems.{settle-taken}
use Rattle.format.proofs.LayoutTheorems.{same-eq, same_refl}
use Rattle.vob24.specs.Refusals
use Rattle.vob24.specs.Settings.{Settings, starting_budget}
use Rattle.vob24.specs.Grammar.{artifacts}
use Rattle.vob24.specs.Fields.{after, artifact_of}
use Rattle.vob24.specs.Cost.{part_of}
use Rattle.vob24.specs.Calls.{Found, At, Not, whole_trace, look_in, looking, find_outcome, found_part}
use Rattle.vob24_theorems.specs.Theorems.{whole-held}

-- The artifact's name is these bytes.
abbrev pub Named : List ℕ → Value → Type 0
Named name a = content (artifact_of a).name ≡ name

-- No artifact of the list has the name.
pub data NoneNamed (name : List ℕ) : List Value → Type 0 where
  done : NoneNamed name []
  also : {a : Value} {rest : List Value} → (Named name a → ⊥) → NoneNamed name rest → NoneNamed name (a ∷ rest)

-- The artifact is the first of the list that has it.
pub data FirstNamed (name : List ℕ) (a : Value) : List Value → Type 0 where
  here : {rest : List Value} → Named name a → FirstNamed name a (a ∷ rest)
  later : {a' : Value} {rest : List Value} → (Named name a' → ⊥) → FirstNamed name a rest
      → FirstNamed name a (a' ∷ rest)

none_first : {name : List ℕ} {a : Value} {list : List Value} → NoneNamed name list → FirstNamed name a list → ⊥
none_first (also d n) (here h) = d h
none_first (also d n) (later d' f) = none_first n f
none_first {name = name} {a = a} done x3 = elim x3 [ ]

one-first : {name : List ℕ} {a b : Value} {list : List Value} → FirstNamed name a list → FirstNamed name b list → a ≡ b
one-first (here h) (here k) = refl
one-first (here h) (later d f) = absurd (d h)
one-first (later d f) (here h) = absurd (d h)
one-first (later d f) (later d' g) = one-first f g

abbrev pub payload_of : Value → Value
payload_of a = (artifact_of a).payload

-- Either way, and what the lookup then answers.
pub data Looked (name : List ℕ) (list : List Value) (p l : ℕ) : Type 0 where
  missing : NoneNamed name list → look_in name list p l ≡ Not (wrong Refusals.no_such_artifact 0) p l
      → Looked name list p l
  first' : (a : Value) → FirstNamed name a list
      → look_in name list p l ≡ At (start (payload_of a)) (length (content (payload_of a))) → Looked name list p l

differs : (name : List ℕ) (a : Value) → same (content (artifact_of a).name) name ≡ false → Named name a → ⊥
differs name a e h = go (same (content (artifact_of a).name) name) e (rw h (same_refl name))
  where
    go : (d : Bool) → d ≡ false → T d → ⊥
    go true x y = let no : ◌≡◌ {A = ℕ} 0 1 = cc in omega arith
    go false x y = elim y [ ]

look : (name : List ℕ) (list : List Value) (p l : ℕ) → Looked name list p l
unfolding look_in pick
look name [] p l = missing done refl
look name (a ∷ rest) p l = go (same (content (artifact_of a).name) name) refl (look name rest p l)
  where
    found : Found
    found = At (start (payload_of a)) (length (content (payload_of a)))

    go : (d : Bool) → same (content (artifact_of a).name) name ≡ d → Looked name rest p l → Looked name (a ∷ rest) p l
    go true e r = first' a (here (same-eq (content (artifact_of a).name) name (rw e tt))) (ap (λ d. pick d found (look_in name rest p l)) e)
    go false e (missing n i) = missing (also (differs name a e) n) (ap (λ d. pick d found (look_in name rest p l)) e ∙ i)
    go false e (first' b n i) = first' b (later (differs name a e) n) (ap (λ d. pick d found (look_in name rest p l)) e ∙ i)

-- The bytes of a part of what was read stand in the file.
held-content : (v : Value) (s : List ℕ) → Held v s → part s (start v) (length (content v)) ≡ content v
held-content none s h = refl
held-content (num n) s h = refl
held-content (text p b) s h = h
held-content (pair v w) s h = refl

held_first : (v : Value) (s : List ℕ) → Held v s → Held (first v) s
held_first none s h = tt
held_first (num n) s h = tt
held_first (text p b) s h = tt
held_first (pair v w) s h = h.0

held-second : (v : Value) (s : List ℕ) → Held v s → Held (second v) s
held-second none s h = tt
held-second (num n) s h = tt
held-second (text p b) s h = tt
held-second (pair v w) s h = h.1

held_after : (n : ℕ) (v : Value) (s : List ℕ) → Held v s → Held (after n v) s
held_after zero v s h = h
held_after (suc n) v s h = held_after n (second v) s (held-second v s h)

data AllHeld (s : List ℕ) : List Value → Type 0 where
  none' : AllHeld s []
  more : {v : Value} {vs : List Value} → Held v s → AllHeld s vs → AllHeld s (v ∷ vs)

held_items : (n : ℕ) (v : Value) (s : List ℕ) → Held v s → AllHeld s (items n v)
unfolding items
held_items zero v s h = none'
held_items (suc n) v s h = more (held_first v s h) (held_items n (second v) s (held-second v s h))

held-named : {s : List ℕ} {name : List ℕ} {a : Value} {list : List Value} → FirstNamed name a list → AllHeld s list
    → Held a s
held-named (here e) (more x y) = x
held-named (later d f) (more x y) = held-named f y

module _ (set : Settings) (s name : List ℕ) where
  -- A pack that is refused under the Rust's starting budget: its refusal, and an empty part.
  pub find-refused : {w : Wrong} {p l : ℕ} → settle starting_budget (whole_trace set s) ≡ refused w p l
      → (find_outcome set s name ≡ Not w p l) × (found_part s (find_outcome set s name) ≡ [])
  unfolding find_outcome
  find-refused e = (ap (looking name) e, ap (λ r. found_part s (looking name r)) e)

  module _ {v : Value} {p l : ℕ} (e : settle starting_budget (whole_trace set s) ≡ taken v p l) where
    -- One that is taken: 27 where no artifact has the name, else the payload of the first that has it.
    pub find-looked : Looked name (entries (part_of artifacts v)) p l × (find_outcome set s name ≡ look_in name (entries (part_of artifacts v)) p l)
    unfolding find_outcome
    find-looked = (look name (entries (part_of artifacts v)) p l, ap (looking name) e)

    pub find_none : NoneNamed name (entries (part_of artifacts v))
        → find_outcome set s name ≡ Not (wrong Refusals.no_such_artifact 0) p l
    find_none n = find-looked.1 ∙ go find-looked.0
      where
        go : Looked name (entries (part_of artifacts v)) p l
            → look_in name (entries (part_of artifacts v)) p l ≡ Not (wrong Refusals.no_such_artifact 0) p l
        go (missing _ i) = i
        go (first' a f i) = absurd (none_first n f)

    module _ {a : Value} (f : FirstNamed name a (entries (part_of artifacts v))) where
      pub find_first : find_outcome set s name ≡ At (start (payload_of a)) (length (content (payload_of a)))
      find_first = find-looked.1 ∙ go find-looked.0
        where
          go : Looked name (entries (part_of artifacts v)) p l
              → look_in name (entries (part_of artifacts v)) p l ≡ At (start (payload_of a)) (length (content (payload_of a)))
          go (missing n i) = absurd (none_first n f)
          go (first' b g i) = let same = one-first g f in i ∙ rw same

      -- The part is the payload's bytes, where they stand in the pack.
      pub find-part : found_part s (find_outcome set s name) ≡ content (payload_of a)
      unfolding part_of
      find-part =
          let list = part_of artifacts v in
          let h = whole-held set s ((settle-taken starting_budget (whole_trace set s) v p l).0 e).0 in
          let k = held-second list s (held_first (after 15 v) s (held_after 15 v s h)) in
          let i = held-named f (held_items (number (first list)) (second list) s k) in
          ap (found_part s) find_first ∙ held-content (payload_of a) s (held_after 2 a s i)
