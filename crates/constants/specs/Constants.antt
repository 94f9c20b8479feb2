-- The answer for a constant, as a function of the value that was read.
use Rattle.std.specs.Prelude.{ℕ, zero, suc, eqb, length}
use Rattle.std.specs.Float.{binary64}
use Rattle.std.specs.Float.Ieee.{of_bits}
use Rattle.std.specs.Int.{w64}
use Rattle.std.proofs.Common.{to_z}
use Rattle.format.specs.Format.{Value, number, start, content, Format}
use Rattle.vob24.specs.Settings as of
use Rattle.vob24.specs.Settings.{Settings}
use Rattle.vob24.specs.Fields.{variant_of}
use Rattle.vob24.specs.Grammar as vob
use Rattle.reader.specs.Contract.{span_at}
use Rattle.constants.specs.declared.answers.Constant.{Constant}

abbrev pub constant_format : Format
constant_format = vob.constant

abbrev pub constant_list : Settings → Format
constant_list set = vob.list set of.Constant vob.constant

-- what stands behind the tag
abbrev pub bool_of : Value → Constant
bool_of v = Constant.Bool (eqb (number v) 1)

abbrev pub int_of : Value → Constant
int_of v = Constant.Int (to_z w64 (number v))

abbrev pub float_of : Value → Constant
float_of v = Constant.Float (of_bits binary64 (number v))

abbrev pub text_of : Value → Constant
text_of v = Constant.Text (span_at (start v) (length (content v)))

unfoldable pub constant_by : ℕ → Value → Constant
constant_by zero v = Constant.Nil
constant_by (suc zero) v = bool_of v
constant_by (suc (suc zero)) v = int_of v
constant_by (suc (suc (suc zero))) v = float_of v
constant_by (suc (suc (suc (suc n)))) v = text_of v

abbrev pub constant_of : ℕ → Value → Constant
constant_of p v = let x = variant_of v in constant_by (number x.tag) x.part
