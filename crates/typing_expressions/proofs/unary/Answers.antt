-- `typing_expressions::unary` meets its contract. Assumes nothing.
use native.Mathlib.Omega.{arith}
use Rattle.typing_expressions.specs.Nodes.{step}
use Rattle.typing_expressions.proofs.Slots.{node_refused, node_put, one_slot}
use Rattle.typing_expressions.proofs.unary.Goals as goal

pub returns-then-not-unary_takes : goal.returns-then-not-unary_takes
unfolding step
returns-then-not-unary_takes c = λ Γ. node_refused (rw (one_slot c.args.stack.now c.args.i, ← c.kind-kind.ensures, ← c.if-not-unary_takes.ensures))

pub returns : goal.returns
unfolding step
returns c = λ Γ. node_put c.put.ensures (omega arith) (rw (one_slot c.args.stack.now c.args.i, ← c.kind-kind.ensures, ← c.lanes-length.ensures, ← c.if-not-unary_takes.ensures, c.from.ensures))
