-- The record of a select case, as a function of the place and the value that was read there.
use Rattle.std.specs.Prelude.{ℕ, ◌+◌, [], ◌∷◌, eqb, get_or}
use Rattle.format.specs.Format.{Value, number, Format, ◌▸◌}
use Rattle.vob24.specs.Settings as of
use Rattle.vob24.specs.Settings.{Settings}
use Rattle.vob24.specs.Leaves.{u16, bool}
use Rattle.vob24.specs.Fields as of-value
use Rattle.vob24.specs.Fields.{variant_of}
use Rattle.vob24.specs.Grammar as vob
use Rattle.select_case.specs.declared.SelectCase.{SelectCase}
use Rattle.select_case.specs.declared.SelectCase.TheVariants.{Send, Recv}

-- ---- the formats

abbrev pub select_format : Format
select_format = vob.select_case

abbrev pub select_list : Settings → Format
select_list set = vob.list set of.SelectCaseLayout select_format

abbrev pub send_format : Format
send_format = u16 ▸ u16 ▸ u16

abbrev pub recv_format : Format
recv_format = u16 ▸ u16 ▸ u16 ▸ bool

-- ---- the records: p is the place after the tag, v the value there

abbrev pub send_of : ℕ → Value → SelectCase
send_of p v = let x = of-value.send_of v in Send (number x.queue) (number x.value) (number x.elem_slots)

abbrev pub recv_of : ℕ → Value → SelectCase
recv_of p v =
    let x = of-value.recv_of v in
    Recv (number x.destination) (number x.queue) (number x.elem_slots) (eqb (number x.has_ok) 1)

unfoldable pub select_of : ℕ → Value → SelectCase
select_of p v = let x = variant_of v in get_or (send_of (p + 1) x.part ∷ recv_of (p + 1) x.part ∷ []) (number x.tag) (Send 0 0 0)
