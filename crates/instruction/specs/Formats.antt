-- The formats of instructions, under the settings.
use Rattle.reader.specs.Leaves.{narrow_byte, narrow_half}
use Rattle.std.specs.Prelude.{ℕ, List, [], ◌∷◌, refl}
use Rattle.std.proofs.Common.{lit<}
use Rattle.format.specs.Format.{Format}
use Rattle.vob24.specs.Settings as of
use Rattle.vob24.specs.Settings.{Settings}
use Rattle.vob24.specs.Grammar as vob
use Rattle.lists.specs.Fixed.{Sized, Flat, flat-one, flat-more}

abbrev pub instruction_format : Format
instruction_format = vob.instruction

-- op, flags, a, b, c
abbrev pub instruction_widths : List ℕ
instruction_widths = 1 ∷ 1 ∷ 2 ∷ 2 ∷ 2 ∷ []

-- eight bytes, five words
pub sized_instruction : Sized instruction_widths 8 5
sized_instruction = record { bytes = refl; words = refl; some = lit< tt; any = lit< tt }

pub flat_instruction : Flat instruction_format instruction_widths
unfolding vob.instruction
flat_instruction = flat-more narrow_byte (flat-more narrow_byte (flat-more narrow_half (flat-more narrow_half (flat-one narrow_half))))

abbrev pub instruction_list : Settings → Format
instruction_list set = vob.list set of.Instruction instruction_format
