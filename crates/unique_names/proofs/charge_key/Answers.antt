use Rattle.std.proofs.Common.{inl, inr}
use Rattle.unique_names.proofs.Asking.{charge-method, charge-identity, charge-alike}
use Rattle.unique_names.proofs.charge_key.Goals as goal

pub returns-in-Methods : goal.returns-in-Methods
returns-in-Methods c = elim c.in-Methods.is [ inl h ↦ charge-method h.1 | inr k ↦ elim k [ inl h ↦ charge-identity h | inr h ↦ charge-alike h.1 ] ]
