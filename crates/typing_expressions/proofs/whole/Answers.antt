-- `typing_expressions::whole` meets its contract. Assumes nothing.
use mathlib.Core.Path.{ap}
use Prim.Native.Nat.{◌*◌}
use native.Mathlib.Omega.{arith}
use Rattle.std.proofs.lemmas.Nat.{mul-le}
use Rattle.meaning.specs.Memory.{whole}
use Rattle.laws.proofs.Declarations.{listed_few}
use Rattle.typing_expressions.proofs.Tags.{size_few}
use Rattle.typing_expressions.proofs.whole.Goals as goal

pub overflow_cast-result : goal.overflow_cast-result
overflow_cast-result c = omega (arith, size_few c.args.kind)

pub overflow_mul-result : goal.overflow_mul-result
overflow_mul-result c = omega (arith, rw (← c.size.ensures) at (mul-le _ _ _ _ (listed_few _ c.requires.is) (size_few c.args.kind)))

pub returns : goal.returns
unfolding whole
returns c = ap (λ s. c.args.length * s) c.size.ensures
