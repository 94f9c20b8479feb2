use Rattle.transfers.proofs.Words.{packed-kind, packed-id}
use Rattle.transfers.proofs.packed_ok.Goals as goal

pub returns-then-word-le24 : goal.returns-then-word-le24
returns-then-word-le24 c = packed-id _ c.if-word-le24.true

pub returns-else-word-le24 : goal.returns-else-word-le24
returns-else-word-le24 c = packed-kind _ c.if-word-le24.false
