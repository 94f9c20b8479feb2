use Rattle.vob24.specs.Settings.{settings_of}
use Rattle.vob24.specs.SizeTable.{settings-licensed, size-most}
use Rattle.vob24_data.proofs.measured_size.Goals as goal

pub returns : goal.returns
unfolding settings_of
returns c = (c.size_at.ensures.0, rw c.size_at.ensures.0 (size-most settings-licensed _))
