use Rattle.std.proofs.Common.{◌≡◌, fold, bit_or, rules}
use Rattle.utf8.proofs.Laws.{low-joined}
use Rattle.utf8.proofs.ascii.Goals as goal

pub returns : goal.returns
returns c =
    let e : c.fold.result ≡ fold bit_or 0 c.args.s.now = search rules in
    rw e (low-joined c.args.s.now)
