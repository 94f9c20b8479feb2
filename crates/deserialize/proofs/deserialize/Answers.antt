use Rattle.vob24.specs.Grammar.{section, after_functions, sections, pack}
use Rattle.reader.proofs.Laws.{field_then, comes_then}
use Rattle.reader.proofs.Accepting.{accepted-next}
use Rattle.std.proofs.Common.{rules}
use Rattle.deserialize.proofs.deserialize.Goals as goal

pub types-r4-requires : goal.types-r4-requires
unfolding section after_functions sections pack
types-r4-requires c = (search rules, accepted-next c.field_str-r3.ensures (accepted-next c.field_version-r2.ensures (accepted-next c.field_magic-r1.ensures c.requires.1)))

pub returns : goal.returns
unfolding section after_functions sections pack
returns c = field_then c.field_magic-r1.ensures (λ _. field_then c.field_version-r2.ensures (λ _. field_then c.field_str-r3.ensures (λ _. comes_then c.types-r4.ensures (field_then c.well_known-r5.ensures (λ _. (c.constants_on).ensures)))))
