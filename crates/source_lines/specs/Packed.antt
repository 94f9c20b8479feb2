-- Packed numbers that were read, by the bytes that end them.
use Rattle.std.specs.Prelude.{ℕ, suc, zero, ◌+◌, ◌≤◌, ◌<◌, ◌≡◌, List, length, get_or, ltb}
use Rattle.format.specs.Trace.{pick}
use Rattle.format.specs.Format.{number}
use Rattle.vob24.specs.Settings.{max_pack_bytes}
use Rattle.vob24.specs.Leaves.{source_u32}
use Rattle.vob24.specs.Fields.{location_of}
use Rattle.vob24.specs.Grammar.{location}
use Rattle.in_place.specs.Walk.{value_at, next_at}
use Rattle.source_lines.specs.declared.packed.Packed.{Packed}

-- whether a byte ends a packed number
abbrev pub ending : ℕ → ℕ
ending b = pick (ltb b 128) 1 0

-- how many of the n bytes from p on do
unfoldable pub endings : List ℕ → ℕ → ℕ → ℕ
endings s p zero = 0
endings s p (suc n) = endings s p n + ending (get_or s (p + n) 0)

-- k packed numbers stand from p to q: each ends with its one byte below 128.
pub data Skips (s : List ℕ) : ℕ → ℕ → ℕ → Type 0 where
  done : {p : ℕ} → Skips s 0 p p
  within : {k p q : ℕ} → p < length s → 128 ≤ get_or s p 0 → Skips s (suc k) (p + 1) q → Skips s (suc k) p q
  ends : {k p q : ℕ} → p < length s → get_or s p 0 < 128 → Skips s k (p + 1) q → Skips s (suc k) p q

-- k packed numbers were read from p on.
pub record NumbersAt (k : ℕ) (s : List ℕ) (p : ℕ) : Type 0 where
  pub small : length s ≤ max_pack_bytes
  pub end : ℕ
  pub skips : Skips s k p end

-- The packed number at p, and the place past it.
pub record PackedIs (s : List ℕ) (p : ℕ) (q : Packed) : Type 0 where
  pub value : q.value ≡ number (value_at source_u32 s p)
  pub next : q.next ≡ next_at source_u32 s p

-- The address of the location at p, and the place past it.
pub record LocationIs (s : List ℕ) (p : ℕ) (q : Packed) : Type 0 where
  pub pc : q.value ≡ number (location_of (value_at location s p)).pc
  pub next : q.next ≡ next_at location s p
