-- Entries of fixed width: what a run rests on.
use Rattle.std.specs.Prelude.{ℕ, ◌≡◌, ◌<◌, List, [], ◌∷◌, length, refl}
use Rattle.std.proofs.Common.{lit<}
use Rattle.format.specs.Format.{Width, fixed, Format, leaf, ◌▸◌}
use Rattle.format.specs.Reading.{size}
use Rattle.vob24.specs.Leaves.{free, u8, u16, u32}
use Rattle.reader.specs.Leaves.{Narrow, narrow_byte, narrow_half, narrow_word}
use Rattle.lists.specs.Runs.{width}

-- The bytes and the words of an entry are those of its widths.
pub record Sized (ws : List ℕ) (b w : ℕ) : Type 0 where
  pub bytes : b ≡ width ws
  pub words : w ≡ length ws
  pub some : 0 < b
  pub any : 0 < w

pub sized_byte : Sized (1 ∷ []) 1 1
sized_byte = record { bytes = refl; words = refl; some = lit< tt; any = lit< tt }

pub sized_half : Sized (2 ∷ []) 2 1
sized_half = record { bytes = refl; words = refl; some = lit< tt; any = lit< tt }

pub sized_word : Sized (4 ∷ []) 4 1
sized_word = record { bytes = refl; words = refl; some = lit< tt; any = lit< tt }

-- a format of numbers with no rule, by their widths
pub data Flat : Format → List ℕ → Type 0 where
  flat-one : {w : Width} → Narrow w → Flat (leaf (fixed w free)) (size w ∷ [])
  flat-more : {w : Width} {g : Format} {ws : List ℕ} → Narrow w → Flat g ws
      → Flat (leaf (fixed w free) ▸ g) (size w ∷ ws)

pub flat_byte : Flat u8 (1 ∷ [])
flat_byte = flat-one narrow_byte

pub flat_half : Flat u16 (2 ∷ [])
flat_half = flat-one narrow_half

pub flat_word : Flat u32 (4 ∷ [])
flat_word = flat-one narrow_word
