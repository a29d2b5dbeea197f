-- `typing_expressions::need` meets its contract. Assumes nothing.
use Prim.Native.Nat.{◌-◌}
use mathlib.Core.Path.{sym, ◌∙◌}
use native.Mathlib.Omega.{arith}
use Rattle.typing_expressions.specs.Rows.{end_of}
use Rattle.typing_expressions.proofs.Tables.{need-entries, last_end}
use Rattle.typing_expressions.proofs.need.Goals as goal

pub returns-then-count-eq0 : goal.returns-then-count-eq0
unfolding end_of
returns-then-count-eq0 c = λ text. rw c.if-count-eq0.true (sym (need-entries text c.args.table.now 0))

pub whole-requires : goal.whole-requires
whole-requires c = rw c.lanes.ensures (c.requires.is.listed (c.args.count - 1) (omega arith))

pub overflow_add-result : goal.overflow_add-result
overflow_add-result c = omega (arith, c.requires.is.small, c.requires.is.few, last_end c.args.table.now c.args.count c.if-count-eq0.false c.address.ensures c.whole.ensures c.kind.ensures c.lanes.ensures)

pub returns : goal.returns
returns c = λ text. sym (need-entries text c.args.table.now c.args.count ∙ last_end c.args.table.now c.args.count c.if-count-eq0.false c.address.ensures c.whole.ensures c.kind.ensures c.lanes.ensures)
