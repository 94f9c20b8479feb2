use Rattle.vob24.specs.Settings.{settings_of}
use Rattle.vob24.specs.Grammar.{section}
use Rattle.reader.proofs.Laws.{ready_at, comes-up, comes-at, comes-last, comes-next}
use Rattle.reader.proofs.Accepting.{accepted-first, accepted-next}
use Rattle.std.proofs.Common.{rules}
use Rattle.deserialize.proofs.Laws.{no-types}
use Rattle.deserialize.proofs.types.Goals as goal

pub returns-in_err-c : goal.returns-in_err-c
returns-in_err-c c = comes-up c.in_err-c.was c.from_residual.ensures.1

pub returns-then-empty_at : goal.returns-then-empty_at
returns-then-empty_at c = comes-at c.in_ok-c.was (no-types (settings_of c.args.set.now) (ready_at c.in_ok-c.was c.requires.0) (c.empty_at.ensures c.if-empty_at.true) c.past_empty.ensures)

pub structs-r1-requires : goal.structs-r1-requires
unfolding section
structs-r1-requires c = (c.requires.0, accepted-first c.requires.1)

pub interfaces-r2-requires : goal.interfaces-r2-requires
unfolding section
interfaces-r2-requires c = (search rules, accepted-first (accepted-next c.structs-r1.ensures c.requires.1))

pub named_types-r3-requires : goal.named_types-r3-requires
unfolding section
named_types-r3-requires c = (search rules, accepted-first (accepted-next c.interfaces-r2.ensures (accepted-next c.structs-r1.ensures c.requires.1)))

pub runtime_types-requires : goal.runtime_types-requires
unfolding section
runtime_types-requires c = (search rules, accepted-first (accepted-next c.itabs-r4.ensures (accepted-next c.named_types-r3.ensures (accepted-next c.interfaces-r2.ensures (accepted-next c.structs-r1.ensures c.requires.1)))))

pub returns : goal.returns
unfolding section
returns c = comes-next c.structs-r1.ensures (comes-next c.interfaces-r2.ensures (comes-next c.named_types-r3.ensures (comes-next c.itabs-r4.ensures (comes-last c.runtime_types.ensures))))
