use Rattle.std.proofs.Common.{◌∙◌, arith}
use Rattle.utf8_parts.proofs.Bytes.{trailing-byte, trailing-few}
use Rattle.utf8_parts.proofs.trailing.Goals as goal

pub returns : goal.returns
returns c =
    let e = c.from.ensures ∙ trailing-byte c.args.b in
    (e, omega (arith, trailing-few c.args.b))
