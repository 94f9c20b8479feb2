use Rattle.std.proofs.Common.{arith, refl}
use Rattle.utf8.proofs.Laws.{low-halves}
use Rattle.utf8.proofs.plain.Goals as goal

pub returns-then-ascii : goal.returns-then-ascii
returns-then-ascii c =
    let s = c.split_at.ensures in
    λ h. low-halves 4096 (omega arith) (rw s.front at (c.if-ascii.ensures refl)) (rw s.back at (c.ascii-then-ascii.ensures h))
