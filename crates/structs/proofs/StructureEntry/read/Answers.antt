use Rattle.vob24.specs.Grammar.{struct}
use Rattle.reader.proofs.Laws.{field_then}
use Rattle.in_place.proofs.Following.{list-here, list_asks}
use Rattle.unique_names.proofs.Accepting.{accepted-list}
use Rattle.structs.proofs.StructureEntry.read.Goals as goal

pub asked-requires : goal.asked-requires
unfolding struct
asked-requires c = (list-here c.slot_types-slot_types.ensures.ready c.read_list-fields.ensures, accepted-list (λ x a. field_then c.slot_types-slot_types.ensures (λ _. list_asks c.read_list-fields.ensures a)) c.requires.accepted)

pub returns : goal.returns
unfolding struct
returns c = field_then c.slot_types-slot_types.ensures (λ _. list_asks c.read_list-fields.ensures c.asked.ensures)
