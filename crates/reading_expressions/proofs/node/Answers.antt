-- `node` appends its unit.
use mathlib.Core.Path.{refl}
use native.Mathlib.Omega.{arith}
use Rattle.reading_expressions.proofs.Answers.{appends_sets}
use Rattle.reading_expressions.proofs.node.Goals as goal

pub returns : goal.returns
returns c = record { is = refl; wrote = rw c.put_unit.ensures (appends_sets (omega arith)) }
