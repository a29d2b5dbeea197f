-- What `?` hands up is what it met.
use Rattle.std.proofs.Common.{◌≡◌, ap, ◌∙◌}
use Rattle.std.proofs.lemmas.Result.{err_from_is_err_and}
use Rattle.std.specs.Prelude.{IsErrAnd}
use Rattle.std.specs.declared.result.Result.{Result}
use Rattle.std.specs.declared.result.Result.TheVariants.{Err}

pub handed_up : {T E : Type 0} {why : E} (r : Result T E) → IsErrAnd r (λ met. met ≡ why) → r ≡ Err why
handed_up r up = let met = err_from_is_err_and r up in met.1 ∙ ap Err met.2
