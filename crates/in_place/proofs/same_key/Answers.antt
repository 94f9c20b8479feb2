use Rattle.in_place.proofs.Keys.{both-texts, other-names, same-only, same-identity}
use Rattle.in_place.proofs.same_key.Goals as goal

pub same_name-requires : goal.same_name-requires
same_name-requires c = both-texts c.args.table c.requires

pub returns-then-not-same_name : goal.returns-then-not-same_name
returns-then-not-same_name c = other-names c.same_name.ensures c.if-not-same_name.true

pub returns-in-Identities : goal.returns-in-Identities
returns-in-Identities c = same-identity c.same_name.ensures c.if-not-same_name.false c.in-Identities.is c.same_package.ensures

pub returns-in_default : goal.returns-in_default
returns-in_default c = same-only c.same_name.ensures c.if-not-same_name.false c.in_default.not-Identities
