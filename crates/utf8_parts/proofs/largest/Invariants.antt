use Rattle.utf8_parts.specs.Parts.{Most}
use Rattle.utf8_parts.proofs.largest.Given as goal

abbrev pub invariant-loop-b : goal.invariant-loop-b
invariant-loop-b l = Most l.s 0 l.b-index l.m
