use Rattle.in_place.proofs.Asking.{Asking}
use Rattle.vob24.specs.Grammar.{transfer}
use Rattle.transfers.specs.Words.{transfer_over}
use Rattle.transfers.proofs.transfers.Given as goal

abbrev pub invariant-loop-i : goal.invariant-loop-i
invariant-loop-i l = Asking transfer (transfer_over l.context) l.s l.from l.n l.initial.here l.p l.i l.here
