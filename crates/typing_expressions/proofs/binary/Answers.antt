-- `typing_expressions::binary` meets its contract. Assumes nothing.
use native.Mathlib.Omega.{arith}
use Rattle.typing_expressions.specs.Nodes.{step}
use Rattle.typing_expressions.proofs.Slots.{node_refused, node_put, two_slots}
use Rattle.typing_expressions.proofs.binary.Goals as goal

pub returns-then-not-accepts : goal.returns-then-not-accepts
unfolding step
returns-then-not-accepts c = λ Γ. node_refused (rw (two_slots c.args.stack.now c.args.i, ← c.kind-a.ensures, ← c.kind-b.ensures, ← c.if-not-accepts.ensures))

pub returns-then-not-matches : goal.returns-then-not-matches
unfolding step
returns-then-not-matches c = λ Γ. node_refused (rw (two_slots c.args.stack.now c.args.i, ← c.kind-a.ensures, ← c.kind-b.ensures, ← c.lanes-n.ensures, ← c.lanes-m.ensures, ← c.if-not-accepts.ensures, ← c.if-not-matches.ensures))

pub returns : goal.returns
unfolding step
returns c = λ Γ. node_put c.put.ensures (omega arith) (rw (two_slots c.args.stack.now c.args.i, ← c.kind-a.ensures, ← c.kind-b.ensures, ← c.lanes-n.ensures, ← c.lanes-m.ensures, ← c.if-not-accepts.ensures, ← c.if-not-matches.ensures, c.gives-kind.ensures, c.joined.ensures, c.from.ensures))
