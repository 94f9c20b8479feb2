-- The records of kinds with lists.
use Rattle.reader.specs.Recorded.{no_list}
use Rattle.lists.specs.declared.WithLists.{WithLists}

-- no list
abbrev pub bare_of : {K : Type 0} → K → WithLists K
bare_of k = record { kind = k; first = no_list; second = no_list }
