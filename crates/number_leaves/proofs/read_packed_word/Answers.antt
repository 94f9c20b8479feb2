use Rattle.reader.specs.Leaves.{narrow_word}
use Rattle.reader.proofs.Leaves.{fixed-short, fixed-got, word-kind, word-id, packed-ok}
use Rattle.number_leaves.proofs.read_packed_word.Goals as goal

pub returns-in_err-n : goal.returns-in_err-n
returns-in_err-n c = fixed-short c.in_err-n.was c.from_residual.ensures.1 c.read_u32.ensures

pub returns-then-kind-gt24 : goal.returns-then-kind-gt24
returns-then-kind-gt24 c = word-kind _ c.in_ok-n.was c.read_u32.ensures c.if-kind-gt24.true c.refuse.ensures

pub returns-then-n-ge16777215 : goal.returns-then-n-ge16777215
returns-then-n-ge16777215 c = word-id _ c.in_ok-n.was c.read_u32.ensures c.if-kind-gt24.false c.if-n-ge16777215.true c.refuse-then-n-ge16777215.ensures

pub returns : goal.returns
returns c = fixed-got c.in_ok-n.was c.read_u32.ensures narrow_word (packed-ok _ c.if-kind-gt24.false c.if-n-ge16777215.false)
