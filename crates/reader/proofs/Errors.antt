-- What a `?` hands on.
use Rattle.std.specs.Prelude.{◌≡◌, Result, Ok, Err}
use Rattle.std.specs.Result.{IsErrAnd}
use Rattle.std.proofs.Common.{ap, ◌∙◌}
use Rattle.std.proofs.lemmas.Result.{err_from_is_err_and}

pub handed : {X E : Type 0} {x : E} (r : Result X E) → IsErrAnd r (λ y. y ≡ x) → r ≡ Err x
handed r h = let p = err_from_is_err_and r h in p.1 ∙ ap Err p.2

pub apart : {P X E : Type 0} {a : X} {x : E} → ◌≡◌ {A = Result X E} (Err x) (Ok a) → P
apart e = absurd (cc)
