use Rattle.std.proofs.Common.{sym, arith, refl}
use Rattle.utf8.proofs.Laws.{low-slice}
use Rattle.utf8.proofs.Characters.{text-low}
use Rattle.utf8.proofs.scan_at.Goals as goal

pub returns-then-plain : goal.returns-then-plain
returns-then-plain c = sym (text-low (omega arith) (low-slice (omega arith) (omega arith) (c.if-plain.ensures refl)))
