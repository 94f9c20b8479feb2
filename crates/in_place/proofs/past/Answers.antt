use Rattle.std.proofs.Common.{arith}
use Rattle.in_place.proofs.Places.{item-name, past-name, past-typed, past-method, past-field, past-field-end, past-identity, past-identity-end, runtime-package}
use Rattle.in_place.proofs.past.Goals as goal

pub past_text-next-requires : goal.past_text-next-requires
past_text-next-requires c = item-name c.args.item c.requires

pub overflow_add-next : goal.overflow_add-next
overflow_add-next c = omega (arith, (past-field c.requires c.past_text-next.ensures c.in-StructField.is).0, c.requires.small)

pub past_optional_text-requires : goal.past_optional_text-requires
past_optional_text-requires c = (past-field c.requires c.past_text-next.ensures c.in-StructField.is).1

pub overflow_add-result : goal.overflow_add-result
overflow_add-result c = omega (arith, (past-typed c.requires c.past_text-next.ensures c.in-InterfaceMethod.is).0, c.requires.small)

pub overflow_add-result-in-NamedMethod : goal.overflow_add-result-in-NamedMethod
overflow_add-result-in-NamedMethod c = omega (arith, (past-method c.requires c.past_text-next.ensures c.in-NamedMethod.is).0, c.requires.small)

pub past_text-requires : goal.past_text-requires
past_text-requires c = runtime-package (past-identity c.requires c.in-RuntimeField.is) c.package_at.ensures

pub returns-in-Name : goal.returns-in-Name
returns-in-Name c = past-name c.requires c.past_text-next.ensures c.in-Name.is

pub returns-in-StructField : goal.returns-in-StructField
returns-in-StructField c = past-field-end c.requires c.past_text-next.ensures c.in-StructField.is c.past_optional_text.ensures

pub returns-in-InterfaceMethod : goal.returns-in-InterfaceMethod
returns-in-InterfaceMethod c = (past-typed c.requires c.past_text-next.ensures c.in-InterfaceMethod.is).1

pub returns-in-NamedMethod : goal.returns-in-NamedMethod
returns-in-NamedMethod c = (past-method c.requires c.past_text-next.ensures c.in-NamedMethod.is).1

pub returns-in-RuntimeField : goal.returns-in-RuntimeField
returns-in-RuntimeField c = past-identity-end c.requires c.in-RuntimeField.is c.package_at.ensures c.past_text.ensures
