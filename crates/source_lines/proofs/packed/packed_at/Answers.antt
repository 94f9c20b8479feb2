use Rattle.std.proofs.Common.{arith}
use Rattle.source_lines.proofs.Skips.{packed-room, packed-short, packed-got, packed-not}
use Rattle.source_lines.proofs.packed.packed_at.Goals as goal

pub bounds-s-p : goal.bounds-s-p
bounds-s-p c = packed-room c.requires

pub overflow_add-result : goal.overflow_add-result
overflow_add-result c = omega (arith, packed-room c.requires, c.requires.small)

pub returns-then-first-lt128 : goal.returns-then-first-lt128
returns-then-first-lt128 c = packed-short c.requires c.if-first-lt128.true c.from.ensures

pub returns-in-Ok : goal.returns-in-Ok
returns-in-Ok c = packed-got c.requires c.read_source_u32-q.ensures c.in-Ok.is

pub returns-in-Err : goal.returns-in-Err
returns-in-Err c = packed-not c.requires c.read_source_u32-q.ensures c.in-Err.is
