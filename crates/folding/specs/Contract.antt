-- The contracts of folded bytes.
use Rattle.std.specs.Prelude.{ℕ, ◌+◌, ◌-◌, ◌/◌, ◌%◌, ◌≤◌, ◌≡◌, List, [], ◌∷◌, ◌++◌, Bool, true, Option, MatchOption, length}
use Rattle.format.specs.Reading.{part, same}
use Rattle.folding.specs.Bytes.{head_fold, fold_bytes, Without}
use Rattle.folding.specs.declared.Letter.{Letter}
use Rattle.folding.specs.declared.Held.{Held}
use Rattle.folding.specs.declared.Held.TheVariants.{Nothing, Last, Both}
use Rattle.folding.specs.declared.Rest.{Rest}

-- the bytes from a place to an end
abbrev pub span : List ℕ → ℕ → ℕ → List ℕ
span s at end = part s at (end - at)

-- they open with the letter l
pub record LetterAt (s : List ℕ) (at end : ℕ) (l : Letter) : Type 0 where
  pub some : head_fold (span s at end) ≡ 0 → ⊥
  pub base : l.base ≡ head_fold (span s at end) / 256
  pub mark : l.mark ≡ head_fold (span s at end) % 256

abbrev pub FoldAt : List ℕ → ℕ → ℕ → Option Letter → Type 0
FoldAt s at end q = MatchOption q (head_fold (span s at end) ≡ 0) (LetterAt s at end)

-- The bytes of a mark that are still to come: none, the last, or both.
abbrev pub held_bytes : Held → List ℕ
held_bytes Nothing = []
held_bytes (Last b) = b ∷ []
held_bytes (Both b) = 0xcc ∷ b ∷ []

-- the folded bytes that are still to come
abbrev pub ahead : List ℕ → Rest → List ℕ
ahead s r = held_bytes r.held ++ fold_bytes (span s r.at r.end)

-- after n bytes that fold to themselves
abbrev pub past : Rest → ℕ → Rest
past r n = record r { at = r.at + n }

pub record Ready (s : List ℕ) (r : Rest) : Type 0 where
  pub within : r.at ≤ r.end
  pub room : r.end ≤ length s

-- the next folded byte, and what comes after it
pub record Taking (s : List ℕ) (r : Rest) (b : ℕ) (q : Rest) : Type 0 where
  pub is : ahead s r ≡ b ∷ ahead s q
  pub ready : Ready s r → Ready s q

abbrev pub NextIs : List ℕ → Rest → Option (ℕ × Rest) → Type 0
NextIs s r q = MatchOption q (ahead s r ≡ []) (λ n. Taking s r n.0 n.1)

-- the first q bytes at a and at b, up to their ends, are the same and fold to themselves
pub record PrefixIs (s : List ℕ) (a e b f q : ℕ) : Type 0 where
  pub is : same (fold_bytes (span s a e)) (fold_bytes (span s b f)) ≡ same (fold_bytes (span s (a + q) e)) (fold_bytes (span s (b + q) f))
  pub fore : a + q ≤ e
  pub back : b + q ≤ f
  pub less : length (fold_bytes (span s (a + q) e)) ≤ length (fold_bytes (span s a e))

-- the same of folded bytes that are still to come
pub record RunIs (s : List ℕ) (l r : Rest) (q : ℕ) : Type 0 where
  pub is : same (ahead s l) (ahead s r) ≡ same (ahead s (past l q)) (ahead s (past r q))
  pub fore : l.at + q ≤ l.end
  pub back : r.at + q ≤ r.end
  pub less : length (ahead s (past l q)) ≤ length (ahead s l)

pub record SameFolded (s : List ℕ) (a m b n : ℕ) (q : Bool) : Type 0 where
  pub is : q ≡ same (fold_bytes (part s a m)) (fold_bytes (part s b n))

pub record WithoutIs (s : List ℕ) (p n low high : ℕ) (q : Bool) : Type 0 where
  pub is : q ≡ true → Without low high (part s p n)
