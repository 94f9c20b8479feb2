-- The measured sizes are 33, each in 1..4096; so are those of any licensed settings.
use Rattle.std.specs.Prelude.{ℕ, zero, suc, ◌-◌, ◌≤◌, ◌<◌, ◌≡◌, refl, List, [], ◌∷◌, Bool, true, false, T, leb, get_or, length}
use Rattle.std.proofs.Common.{sym, ◌∙◌, arith, leb→le, length-take, get_or-take}
use Rattle.format.specs.Trace.{pick}
use Rattle.vob24.specs.Settings.{Settings, many_sizes, settings, measured, settings_of, size_of, AllWithin, done, also, Licensed}

-- one computed test over the whole table
abbrev within? : List ℕ → Bool
unfolding pick
within? [] = true
within? (n ∷ ns) = pick (leb 1 n) (pick (leb n 4096) (within? ns) false) false

all-within : (ns : List ℕ) → T (within? ns) → AllWithin ns
unfolding pick
all-within [] t = done
all-within (n ∷ ns) t = go (leb 1 n) (leb n 4096) (leb→le 1 n) (leb→le n 4096) (all-within ns) t
  where
    go : (a b : Bool) → (T a → 1 ≤ n) → (T b → n ≤ 4096) → (T (within? ns) → AllWithin ns)
        → T (pick a (pick b (within? ns) false) false) → AllWithin (n ∷ ns)
    go true true x y r t = also (x tt) (y tt) (r t)
    go false b x y r t = elim t [ ]
    go true false x y r t = elim t [ ]

pub settings-licensed : Licensed settings
unfolding pick
settings-licensed =
    record {
      many = refl;
      within = all-within measured tt;
      artifacts = omega arith;
      artifact_name_bytes = omega arith;
      artifact_payload_bytes = omega arith;
      inline_records = omega arith;
    }

at_most : {ns : List ℕ} → AllWithin ns → (i : ℕ) → get_or ns i 0 ≤ 4096
at_most done i = omega arith
at_most (also x y r) zero = y
at_most (also x y r) (suc i) = at_most r i

at_least : {ns : List ℕ} → AllWithin ns → (i : ℕ) → i < length ns → 1 ≤ get_or ns i 0
at_least done i h = absurd (omega arith)
at_least (also x y r) zero h = x
at_least (also x y r) (suc i) h = at_least r i (omega arith)

pub size-most : {set : Settings} → Licensed set → (i : ℕ) → size_of set i ≤ 4096
unfolding size_of
size-most l zero = omega arith
size-most l (suc i) = at_most l.within i

-- "numbered from 1": each is there
pub size-least : {set : Settings} → Licensed set → (i : ℕ) → 1 ≤ i → i ≤ many_sizes → 1 ≤ size_of set i
unfolding size_of
size-least l zero g h = absurd (omega arith)
size-least l (suc i) g h = at_least l.within i (omega (arith, l.many))

-- the sizes as an array from 0 on
pub size_below : (set : Settings) (i : ℕ) → i < 1 → size_of set i ≡ 0
unfolding size_of
size_below set zero h = refl
size_below set (suc i) h = absurd (omega arith)

past : (ns : List ℕ) (i : ℕ) → length ns ≤ i → get_or ns i 0 ≡ 0
past [] i h = refl
past (n ∷ ns) zero h = absurd (omega arith)
past (n ∷ ns) (suc i) h = past ns i (omega arith)

pub size-past : (set : Settings) (i : ℕ) → length set.sizes < i → size_of set i ≡ 0
unfolding size_of
size-past set zero h = refl
size-past set (suc i) h = past set.sizes i (omega arith)

pub size-at : (set : Settings) (i : ℕ) → 1 ≤ i → get_or set.sizes (i - 1) 0 ≡ size_of set i
unfolding size_of
size-at set zero h = absurd (omega arith)
size-at set (suc i) h = let e : suc i - 1 ≡ i = omega arith in rw e

-- of settings that stand in an array
pub array-below : (l : List ℕ) (i : ℕ) → i < 1 → 0 ≡ size_of (settings_of l) i
array-below l i h = sym (size_below (settings_of l) i h)

pub array-past : (l : List ℕ) (i : ℕ) → many_sizes < i → 0 ≡ size_of (settings_of l) i
unfolding settings_of
array-past l i h = sym (size-past (settings_of l) i (omega (arith, length-take many_sizes l)))

pub array_at : (l : List ℕ) (i : ℕ) → 1 ≤ i → i ≤ many_sizes → get_or l (i - 1) 0 ≡ size_of (settings_of l) i
unfolding settings_of
array_at l i h k = let j : i - 1 < many_sizes = omega arith in sym (get_or-take many_sizes l (i - 1) 0 j) ∙ size-at (settings_of l) i h
