use Rattle.std.proofs.Common.{arith}
use Rattle.reader.specs.Recorded.{recorded}
use Rattle.reader.proofs.Recording.{fixed-fits, last_two}
use Rattle.lists.specs.Records.{bare_of}
use Rattle.runtime_type.specs.Records.{optional_of}
use Rattle.runtime_type.specs.declared.RuntimeType.TheVariants as kind
use Rattle.runtime_type.proofs.Laws.{lost_first, lost_second}
use Rattle.runtime_type.proofs.named.Goals as goal

pub returns-in_err-id : goal.returns-in_err-id
returns-in_err-id c = lost_first c.in_err-id.was c.from_residual.ensures.1 c.number.ensures

pub returns-in_err-raw : goal.returns-in_err-raw
returns-in_err-raw c = lost_second c.in_ok-id.was c.number.ensures c.in_err-raw.was c.from_residual-in_err-raw.ensures.1 c.number_optional_id.ensures

pub overflow_cast-kind : goal.overflow_cast-kind
overflow_cast-kind c = record { fits = fixed-fits c.in_ok-id.was c.number.ensures (λ i. omega (arith, c.type_inv.s i)) }

pub optional_id-requires : goal.optional_id-requires
optional_id-requires c = fixed-fits c.in_ok-raw.was c.number_optional_id.ensures (λ i. omega (arith, c.type_inv.s i))

pub returns : goal.returns
returns c = recorded (last_two c.in_ok-id.was c.number.ensures c.in_ok-raw.was c.number_optional_id.ensures (λ m n _. bare_of (kind.Named m (optional_of n))) (rw (← c.optional_id.ensures) c.bare.ensures))
