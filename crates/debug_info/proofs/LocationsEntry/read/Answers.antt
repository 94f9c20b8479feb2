use Rattle.std.proofs.Common.{refl}
use Rattle.reader.proofs.Laws.{up-refused}
use Rattle.reader.proofs.Parts.{part_not, list_then}
use Rattle.debug_info.specs.DebugInfo.{location_format}
use Rattle.debug_info.proofs.Regrouping.{locations-of, numbers_fit}
use Rattle.debug_info.proofs.LocationsEntry.read.Goals as goal

pub returns-in_err-r : goal.returns-in_err-r
returns-in_err-r c = up-refused c.in_err-r.was c.from_residual.ensures.1

pub returns-in_err-n : goal.returns-in_err-n
returns-in_err-n c = part_not c.in_ok-r.was c.in_err-n.was c.from_residual-in_err-n.ensures.1 c.number_count.ensures

pub overflow_mul-n : goal.overflow_mul-n
overflow_mul-n c = record { fits = numbers_fit c.requires.ready c.in_ok-r.was c.in_ok-n.was c.number_count.ensures }

pub returns : goal.returns
returns c = list_then location_format c.in_ok-r.was c.in_ok-n.was c.number_count.ensures (locations-of _ refl c.source_numbers.ensures)
