-- Document 01's fourteen marked cases, proved in one table of the definitions.
use Rattle.std.specs.Prelude.{ℕ, ◌≡◌, refl, List, [], ◌∷◌, false, length}
use Rattle.format.specs.Trace.{wrong, invalid_utf8, unexpected_eof, invalid_source_integer, bind, guard, pick, Out, stopped, ended, out}
use Rattle.format.specs.Format.{Value, num, text, Format}
use Rattle.format.specs.Reading.{little, same, room, field, packed_step, trace_packed, trace_leaf, trace}
use Rattle.vob24.specs.Refusals.{invalid_value_kind, invalid_packed_value_meta}
use Rattle.vob24.specs.Leaves.{source_u32, str, value_meta}

-- A format, the bytes it is put to, and how its reading ends.
pub record Case : Type 0 where
  pub format : Format
  pub file : List ℕ
  pub ends : Out Value

-- a text of so many bytes below 256
abbrev text_of : List ℕ → List ℕ
text_of bs = length bs ∷ 0 ∷ 0 ∷ 0 ∷ bs

-- e with an acute accent, as one code and as two
abbrev composed : List ℕ
composed = 0xc3 ∷ 0xa9 ∷ []

abbrev decomposed : List ℕ
decomposed = 0x65 ∷ 0xcc ∷ 0x81 ∷ []

abbrev pub marked_cases : List Case
marked_cases =
    record { format = source_u32; file = 0x00 ∷ []; ends = ended (num 0) 1 }
    ∷ record { format = source_u32; file = 0x80 ∷ 0x01 ∷ []; ends = ended (num 128) 2 }
    ∷ record { format = source_u32; file = 0xff ∷ 0xff ∷ 0xff ∷ 0xff ∷ 0x0f ∷ []; ends = ended (num 4294967295) 5 }
    ∷ record { format = source_u32; file = 0xff ∷ 0xff ∷ 0xff ∷ 0xff ∷ 0x10 ∷ []; ends = stopped (wrong invalid_source_integer 0) 5 }
    ∷ record { format = source_u32; file = 0x80 ∷ 0x00 ∷ []; ends = stopped (wrong invalid_source_integer 0) 2 }
    ∷ record { format = source_u32; file = 0x80 ∷ []; ends = stopped (wrong unexpected_eof 0) 1 }
    ∷ record { format = str; file = text_of composed; ends = ended (text 4 composed) 6 }
    ∷ record { format = str; file = text_of decomposed; ends = ended (text 4 decomposed) 7 }
    ∷ record { format = str; file = text_of (0xf4 ∷ 0x8f ∷ 0xbf ∷ 0xbf ∷ []); ends = ended (text 4 (0xf4 ∷ 0x8f ∷ 0xbf ∷ 0xbf ∷ [])) 8 }
    ∷ record { format = str; file = text_of (0xc0 ∷ 0x80 ∷ []); ends = stopped (wrong invalid_utf8 0) 6 }
    ∷ record { format = str; file = text_of (0xed ∷ 0xa0 ∷ 0x80 ∷ []); ends = stopped (wrong invalid_utf8 0) 7 }
    ∷ record { format = str; file = text_of (0xf4 ∷ 0x90 ∷ 0x80 ∷ 0x80 ∷ []); ends = stopped (wrong invalid_utf8 0) 8 }
    -- the words FFFFFF19 and FFFFFF18
    ∷ record { format = value_meta; file = 0x19 ∷ 0xff ∷ 0xff ∷ 0xff ∷ []; ends = stopped (wrong invalid_value_kind 0x19) 4 }
    ∷ record { format = value_meta; file = 0x18 ∷ 0xff ∷ 0xff ∷ 0xff ∷ []; ends = stopped (wrong invalid_packed_value_meta 0xffffff18) 4 }
    ∷ []

pub data Hold : List Case → Type 0 where
  done : Hold []
  also : {c : Case} {cs : List Case} → out (trace c.format c.file 0) ≡ c.ends → Hold cs → Hold (c ∷ cs)

pub marked-cases : Hold marked_cases
unfolding trace trace_leaf trace_packed packed_step field room guard bind pick little out
marked-cases = also refl (also refl (also refl (also refl (also refl (also refl (also refl (also refl (also refl (also refl (also refl (also refl (also refl (also refl done)))))))))))))

-- "C3 A9 and 65 CC 81 pass and differ"
pub accents-differ : same composed decomposed ≡ false
unfolding same pick
accents-differ = refl
