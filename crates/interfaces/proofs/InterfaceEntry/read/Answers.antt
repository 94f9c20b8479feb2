use Rattle.std.proofs.Common.{refl}
use Rattle.vob24.specs.Settings.{settings_of}
use Rattle.vob24.specs.Grammar.{interface as interface_record, method_set}
use Rattle.in_place.specs.Items.{names_of}
use Rattle.in_place.specs.declared.Item.TheVariants.{InterfaceMethod}
use Rattle.reader.proofs.Laws.{field_then}
use Rattle.in_place.proofs.Following.{first-behind, second-behind, lists_ask}
use Rattle.in_place.proofs.Asking.{list-refused}
use Rattle.unique_names.proofs.Accepting.{accepted-list}
use Rattle.interfaces.proofs.InterfaceEntry.read.Goals as goal

pub asked-unique-requires : goal.asked-unique-requires
unfolding interface_record
asked-unique-requires c = (first-behind c.read_list-names.ensures c.read_list-methods.ensures c.field_str-name.ensures.ready, accepted-list (λ x a. field_then c.field_str-name.ensures (λ _. lists_ask c.read_list-names.ensures c.read_list-methods.ensures a (list-refused {l = λ vs. method_set (settings_of c.args.self.now.set.now) (names_of InterfaceMethod vs)} refl))) c.requires.accepted)

pub asked-requires : goal.asked-requires
unfolding interface_record
asked-requires c = (second-behind c.read_list-names.ensures c.read_list-methods.ensures c.asked-unique.ensures, accepted-list (λ x a. field_then c.field_str-name.ensures (λ _. lists_ask c.read_list-names.ensures c.read_list-methods.ensures c.asked-unique.ensures a)) c.requires.accepted)

pub returns : goal.returns
unfolding interface_record
returns c = field_then c.field_str-name.ensures (λ _. lists_ask c.read_list-names.ensures c.read_list-methods.ensures c.asked-unique.ensures c.asked.ensures)
