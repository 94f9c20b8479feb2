use Rattle.std.proofs.Common.{arith}
use Rattle.source_lines.proofs.Skips.{location-first, location-rest, location-is, passing-number, passing-next}
use Rattle.source_lines.proofs.packed.location_at.Goals as goal

pub packed_at-pc-requires : goal.packed_at-pc-requires
packed_at-pc-requires c = location-first c.requires

pub past_number-line-requires : goal.past_number-line-requires
past_number-line-requires c = passing-number (location-rest c.requires c.packed_at-pc.ensures) (omega arith)

pub past_number-col-requires : goal.past_number-col-requires
past_number-col-requires c = passing-number (passing-next (location-rest c.requires c.packed_at-pc.ensures) (omega arith) c.past_number-line.ensures) (omega arith)

pub past_number-len-requires : goal.past_number-len-requires
past_number-len-requires c = passing-number (passing-next (passing-next (location-rest c.requires c.packed_at-pc.ensures) (omega arith) c.past_number-line.ensures) (omega arith) c.past_number-col.ensures) (omega arith)

pub past_number-requires : goal.past_number-requires
past_number-requires c = passing-number (passing-next (passing-next (passing-next (location-rest c.requires c.packed_at-pc.ensures) (omega arith) c.past_number-line.ensures) (omega arith) c.past_number-col.ensures) (omega arith) c.past_number-len.ensures) (omega arith)

pub returns : goal.returns
returns c = location-is c.requires c.packed_at-pc.ensures (passing-next (passing-next (passing-next (passing-next (location-rest c.requires c.packed_at-pc.ensures) (omega arith) c.past_number-line.ensures) (omega arith) c.past_number-col.ensures) (omega arith) c.past_number-len.ensures) (omega arith) c.past_number.ensures)
