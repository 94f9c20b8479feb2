-- A number that names a value kind or a direction is the number of what it names.
use Rattle.std.specs.Prelude.{ℕ, zero, suc, ◌+◌, ◌≤◌, ◌≡◌, List, [], ◌∷◌, length, get_or}
use Rattle.std.proofs.Common.{arith, refl}
use Rattle.runtime_type.specs.Numbered.{value_kinds, directions, kind_at, dir_at, value_kind_number, direction_number}
use Rattle.runtime_type.specs.declared.kinds.ValueKind.TheVariants.{Island}
use Rattle.runtime_type.specs.declared.kinds.ChanDir.TheVariants.{Recv}

-- A list whose items have the numbers from k on, and what follows it the next.
module _ {X : Type 0} (number : X → ℕ) (last : X) where
  data Counts : ℕ → List X → Type 0 where
    end : {k : ℕ} → number last ≡ k → Counts k []
    one : {k : ℕ} {x : X} {xs : List X} → number x ≡ k → Counts (suc k) xs → Counts k (x ∷ xs)

  counts-at : {k : ℕ} {xs : List X} → Counts k xs → (n : ℕ) → n ≤ length xs → number (get_or xs n last) ≡ k + n
  counts-at (end e) zero h = omega (arith, e)
  counts-at (end e) (suc n) h = omega (arith, h)
  counts-at (one e i) zero h = omega (arith, e)
  counts-at (one e i) (suc n) h = omega (arith, counts-at i n (omega arith))

pub kind-number : (n : ℕ) → n ≤ 24 → value_kind_number (kind_at n) ≡ n
kind-number n h = omega (arith, counts-at value_kind_number Island counts n h) where
  counts : Counts value_kind_number Island 0 value_kinds
  counts =
      one refl (one refl (one refl (one refl (one refl (one refl (one refl (one refl (one refl (one refl (one refl (one refl (one refl (one refl
      (one refl (one refl (one refl (one refl (one refl (one refl (one refl (one refl (one refl (one refl (end refl))))))))))))))))))))))))

pub direction-number : (n : ℕ) → n ≤ 2 → direction_number (dir_at n) ≡ n
direction-number n h = omega (arith, counts-at direction_number Recv {xs = directions} (one refl (one refl (end refl))) n h)
