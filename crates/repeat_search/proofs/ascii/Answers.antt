use Rattle.std.proofs.Common.{ltb, ◌∙◌, ◌-◌, ◌+◌, ◌≡◌, arith, rules, tests}
use Rattle.std.proofs.lemmas.Iterator.{YieldsList-from_slice}
use Rattle.std.proofs.lemmas.Iterator.Search.{all_from_yields_List}
use Rattle.format.specs.Reading.{part}
use Rattle.repeat_search.proofs.Tails.{lows-all}
use Rattle.repeat_search.proofs.ascii.Goals as goal

pub returns : goal.returns
returns c =
    let x = part c.args.s.now c.args.p 4 in
    let i : c.args.p + 4 - c.args.p ≡ 4 = omega arith in
    let y = YieldsList-from_slice x (rw i at c.iter.ensures.rest) in
    all_from_yields_List (λ b. ltb b 128) _ _ c.all.result c.all.ensures.ran y (λ x b q k. search (rules, tests)) ∙ lows-all x
