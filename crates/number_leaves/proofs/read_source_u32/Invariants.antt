use Rattle.number_leaves.proofs.Packing.{Packing}
use Rattle.number_leaves.proofs.read_source_u32.Given as goal

abbrev pub invariant-loop-i : goal.invariant-loop-i
invariant-loop-i l = Packing l.s l.initial.d l.value l.d l.i
