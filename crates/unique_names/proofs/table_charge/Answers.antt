use Rattle.std.proofs.Common.{inl, inr}
use Rattle.unique_names.proofs.Lists.{charge-fields, charge-methods, charge-names, charge-identities}
use Rattle.unique_names.proofs.table_charge.Goals as goal

pub returns-in-Fields : goal.returns-in-Fields
returns-in-Fields c = charge-fields c.in-Fields.is c.named-tally.ensures c.bytes.ensures.0

pub returns-in-Methods : goal.returns-in-Methods
returns-in-Methods c = elim c.in-Methods.is [ inl h ↦ charge-methods h.1 c.bytes-in-Methods.ensures.0 | inr h ↦ charge-names h.1 c.bytes-in-Methods.ensures.0 ]

pub returns-in-Identities : goal.returns-in-Identities
returns-in-Identities c = charge-identities c.in-Identities.is c.bytes-in-Identities.ensures.0
