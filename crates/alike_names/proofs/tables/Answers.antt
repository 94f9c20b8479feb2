use Rattle.std.proofs.Common.{arith}
use Rattle.alike_names.proofs.Packs.{reached-here, pack-name, at-structs, in-structs, at-interfaces, in-interfaces, at-named-types, in-named-types, at-itabs, at-runtime-types, in-runtime-types}
use Rattle.alike_names.proofs.tables.Goals as goal

pub word_at-name-requires : goal.word_at-name-requires
word_at-name-requires c = omega (arith, pack-name _ c.requires)

pub records-requires : goal.records-requires
records-requires c = reached-here (at-structs _ c.requires c.word_at-name.ensures)

pub returns-in_err-interfaces : goal.returns-in_err-interfaces
returns-in_err-interfaces c = rw c.from_residual.ensures (in-structs _ c.requires c.word_at-name.ensures c.records.ensures c.in_err-interfaces.was)

pub records-requires-2 : goal.records-requires-2
records-requires-2 c = reached-here (at-interfaces _ c.requires c.word_at-name.ensures c.records.ensures c.in_ok-interfaces.was)

pub returns-in_err-named_types : goal.returns-in_err-named_types
returns-in_err-named_types c = rw c.from_residual-in_err-named_types.ensures (in-interfaces _ c.requires c.word_at-name.ensures c.records.ensures c.in_ok-interfaces.was c.records-2.ensures c.in_err-named_types.was)

pub records-requires-3 : goal.records-requires-3
records-requires-3 c = reached-here (at-named-types _ c.requires c.word_at-name.ensures c.records.ensures c.in_ok-interfaces.was c.records-2.ensures c.in_ok-named_types.was)

pub returns-in_err-itabs : goal.returns-in_err-itabs
returns-in_err-itabs c = rw c.from_residual-in_err-itabs.ensures (in-named-types _ c.requires c.word_at-name.ensures c.records.ensures c.in_ok-interfaces.was c.records-2.ensures c.in_ok-named_types.was c.records-3.ensures c.in_err-itabs.was)

pub past_itabs-runtime_types-requires : goal.past_itabs-runtime_types-requires
past_itabs-runtime_types-requires c = reached-here (at-itabs _ c.requires c.word_at-name.ensures c.records.ensures c.in_ok-interfaces.was c.records-2.ensures c.in_ok-named_types.was c.records-3.ensures c.in_ok-itabs.was)

pub records-requires-4 : goal.records-requires-4
records-requires-4 c = reached-here (at-runtime-types _ c.requires c.word_at-name.ensures c.records.ensures c.in_ok-interfaces.was c.records-2.ensures c.in_ok-named_types.was c.records-3.ensures c.in_ok-itabs.was c.past_itabs-runtime_types.ensures)

pub returns : goal.returns
returns c = in-runtime-types _ c.requires c.word_at-name.ensures c.records.ensures c.in_ok-interfaces.was c.records-2.ensures c.in_ok-named_types.was c.records-3.ensures c.in_ok-itabs.was c.past_itabs-runtime_types.ensures c.records-4.ensures
