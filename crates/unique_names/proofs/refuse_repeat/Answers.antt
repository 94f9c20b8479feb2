use Rattle.std.proofs.Common.{arith, inl, inr}
use Rattle.in_place.specs.Tables.{item_of}
use Rattle.in_place.proofs.Places.{item-name, runtime-package}
use Rattle.in_place.proofs.Keys.{placed-in}
use Rattle.unique_names.proofs.Asking.{told-field, told-method, told-identity, told-alike}
use Rattle.unique_names.proofs.refuse_repeat.Goals as goal

pub repeated-requires : goal.repeated-requires
repeated-requires c = item-name (item_of c.args.table) c.requires

pub repeated-requires-in-Methods : goal.repeated-requires-in-Methods
repeated-requires-in-Methods c = item-name (item_of c.args.table) c.requires

pub overflow_add-package : goal.overflow_add-package
overflow_add-package c = omega (arith, (runtime-package (placed-in c.in-Identities.is c.requires) c.package_at-package.ensures).room, c.requires.small)

pub repeated-requires-in-Identities : goal.repeated-requires-in-Identities
repeated-requires-in-Identities c = item-name (item_of c.args.table) c.requires

pub returns-in-Fields : goal.returns-in-Fields
returns-in-Fields c = told-field c.requires c.in-Fields.is c.repeated.ensures

pub returns-in-Methods : goal.returns-in-Methods
returns-in-Methods c = elim c.in-Methods.is [ inl h ↦ told-method c.requires h.1 c.repeated-in-Methods.ensures | inr h ↦ told-alike c.requires h.1 c.repeated-in-Methods.ensures ]

pub returns-in-Identities : goal.returns-in-Identities
returns-in-Identities c = told-identity c.requires c.in-Identities.is c.package_at-package.ensures c.repeated-in-Identities.ensures
