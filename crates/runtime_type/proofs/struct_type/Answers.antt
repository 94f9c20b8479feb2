use Rattle.std.proofs.Common.{◌+◌, arith}
use Rattle.vob24.specs.Grammar.{runtime_struct}
use Rattle.reader.specs.Recorded.{recorded}
use Rattle.reader.proofs.Laws.{number_just, got-ready}
use Rattle.reader.proofs.Accepting.{accepted-next}
use Rattle.reader.proofs.Recording.{fixed-fits, fixed-place, last_two}
use Rattle.runtime_type.proofs.Laws.{lost_first, lost_second, listed}
use Rattle.runtime_type.specs.Records.{listed_at}
use Rattle.runtime_type.specs.declared.RuntimeType.TheVariants as kind
use Rattle.runtime_type.proofs.struct_type.Goals as goal

pub returns-in_err-id : goal.returns-in_err-id
unfolding runtime_struct
returns-in_err-id c = lost_first c.in_err-id.was c.from_residual.ensures.1 c.number.ensures

pub number_new_fields-requires : goal.number_new_fields-requires
unfolding runtime_struct
number_new_fields-requires c = (got-ready c.in_ok-id.was c.number.ensures, accepted-next (number_just c.in_ok-id.was c.number.ensures) c.requires.1)

pub returns-in_err-n : goal.returns-in_err-n
unfolding runtime_struct
returns-in_err-n c = lost_second c.in_ok-id.was c.number.ensures c.in_err-n.was c.from_residual-in_err-n.ensures.1 c.number_new_fields.ensures

pub overflow_cast-result : goal.overflow_cast-result
overflow_cast-result c = record { fits = fixed-fits c.in_ok-id.was c.number.ensures (λ i. omega (arith, c.type_inv.s i)) }

pub returns : goal.returns
unfolding runtime_struct
returns c = recorded (last_two c.in_ok-id.was c.number.ensures c.in_ok-n.was c.number_new_fields.ensures (λ m n p. listed_at (kind.Struct m) (p + 4) n) (listed c.list_at.ensures (fixed-place c.in_ok-id.was c.number.ensures)))
