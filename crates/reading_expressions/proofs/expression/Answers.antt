-- An expression is what the first level reads.
use mathlib.Core.Path.{refl}
use native.Mathlib.Omega.{arith}
use Rattle.meaning.specs.Reading.{expression}
use Rattle.reading_expressions.specs.Contract.{from_level}
use Rattle.reading_expressions.proofs.Answers.{shows_alike}
use Rattle.reading_expressions.proofs.expression.Goals as goal

pub returns : goal.returns
unfolding expression from_level
returns c = shows_alike c.binary.ensures (omega arith) (λ ts h. refl)
