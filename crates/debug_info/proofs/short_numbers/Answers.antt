use Rattle.lists.proofs.Copying.{copied-ended}
use Rattle.debug_info.proofs.Shorts.{runs-eight, runs-short, runs-pair, fewer-items}
use Rattle.debug_info.proofs.short_numbers.Goals as goal

pub returns-then-tape-at : goal.returns-then-tape-at
returns-then-tape-at c = (runs-eight c.in-Ok.is c.read_u64.ensures c.requires.0 c.if-n-ge8.true c.if-x-eq0.true (copied-ended c.if-tape-at.true) c.remaining.ensures, fewer-items 8 c.remaining.ensures)

pub returns-then-tape-at-ge8 : goal.returns-then-tape-at-ge8
returns-then-tape-at-ge8 c = (runs-eight c.in-Ok.is c.read_u64.ensures c.requires.0 c.if-n-ge8.true c.if-x-eq0.true c.copy_bytes.ensures c.remaining-then-tape-at-ge8.ensures, fewer-items 8 c.remaining-then-tape-at-ge8.ensures)

pub returns-in-Some-short_number : goal.returns-in-Some-short_number
returns-in-Some-short_number c =
    let a = c.in-Some.ensures in
    let b = c.in-Some-short_number.ensures in
    (runs-pair c.in-Ok.is c.read_u64.ensures c.requires.0 c.if-n-ge2.true c.if-first-eq1.true a.1 c.put.ensures b.0 b.1 c.put-in-Some-short_number.ensures c.remaining-in-Some-short_number.ensures, fewer-items 2 c.remaining-in-Some-short_number.ensures)

pub returns : goal.returns
returns c =
    let a = c.in-Some.ensures in
    (runs-short c.in-Ok.is c.read_u64.ensures c.requires.0 c.requires.1 a.0 a.1 c.put.ensures c.remaining-2.ensures, fewer-items 1 c.remaining-2.ensures)
