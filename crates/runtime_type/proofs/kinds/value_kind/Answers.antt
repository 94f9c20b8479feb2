use Rattle.std.proofs.Common.{arith, sym}
use Rattle.std.proofs.lemmas.List.{get_or_past}
use Rattle.runtime_type.specs.Numbered.{value_kinds}
use Rattle.runtime_type.specs.declared.kinds.ValueKind.TheVariants.{Island}
use Rattle.runtime_type.proofs.Numbers.{kind-number}
use Rattle.runtime_type.proofs.kinds.value_kind.Goals as goal

pub returns-in_default-clause-named : goal.returns-in_default-clause-named
returns-in_default-clause-named c = sym (get_or_past value_kinds c.args.n _ (omega arith))

pub returns-in_default-clause-numbered : goal.returns-in_default-clause-numbered
returns-in_default-clause-numbered c h = rw (get_or_past value_kinds c.args.n Island (omega arith)) at (kind-number c.args.n h)
