-- `layout::word` meets its contract. Assumes nothing.
use native.Mathlib.Omega.{arith}
use Rattle.layout.proofs.word.Goals as goal

pub overflow_cast-result : goal.overflow_cast-result
overflow_cast-result c = omega (arith, c.type_inv.words c.args.i)
