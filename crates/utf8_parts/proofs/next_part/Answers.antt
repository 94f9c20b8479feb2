use Rattle.std.proofs.Common.{arith}
use Rattle.utf8_parts.proofs.Bytes.{tells-of, ascii-part, part-sixteen}
use Rattle.utf8_parts.proofs.next_part.Goals as goal

pub returns-then-m-lt128 : goal.returns-then-m-lt128
returns-then-m-lt128 c =
    record {
      tests = ascii-part (omega arith) (omega arith) c.largest-m.ensures (omega arith);
      some = omega arith;
      within = omega arith;
    }

pub tested-requires-clause-enough : goal.tested-requires-clause-enough
tested-requires-clause-enough c =
    tells-of (omega arith) (omega arith) c.largest-m.ensures (omega arith)
    (λ k r b p i. p i (omega arith) (omega arith) (omega arith))

pub tested-requires-then-m-lt240-clause-enough : goal.tested-requires-then-m-lt240-clause-enough
tested-requires-then-m-lt240-clause-enough c =
    tells-of (omega arith) (omega arith) c.largest-m.ensures (omega arith)
    (λ k r b p i. p i (omega arith) (omega arith))

pub tested-requires-then-m-lt-LAST-clause-enough : goal.tested-requires-then-m-lt-LAST-clause-enough
tested-requires-then-m-lt-LAST-clause-enough c =
    tells-of (omega arith) (omega arith) c.largest-m.ensures (omega arith) (λ k r b p i. p i)

pub returns : goal.returns
returns c = part-sixteen (omega arith) c.sixteen.ensures.0 c.sixteen.ensures.1
