use Rattle.vob24.specs.Grammar.{transfers}
use Rattle.in_place.proofs.Following.{list-here, list_asks}
use Rattle.functions.proofs.transfer_types.Goals as goal

pub transfer_words-requires : goal.transfer_words-requires
transfer_words-requires c = (list-here c.requires.ready c.read_list-list.ensures, c.requires.low)

pub returns : goal.returns
unfolding transfers
returns c = list_asks c.read_list-list.ensures c.transfer_words.ensures
