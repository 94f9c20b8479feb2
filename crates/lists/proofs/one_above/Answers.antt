use Rattle.std.proofs.Common.{◌≡◌, ◌+◌, ◌-◌, arith, fold, max, rules, take, drop}
use Rattle.lists.proofs.Lows.{low-largest}
use Rattle.lists.proofs.one_above.Goals as goal

pub returns : goal.returns
returns c =
    let to = c.args.from + c.args.n in
    let e : c.fold.result ≡ fold max 0 (take (to - c.args.from) (drop c.args.from c.args.s.now)) = search rules in
    low-largest (omega arith) (omega arith) e
