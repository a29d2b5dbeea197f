-- `typing_expressions::operand` meets its contract. Assumes nothing.
use Rattle.std.proofs.Common.{◌∙◌, arith}
use Rattle.layout.proofs.Handed.{handed_up}
use Rattle.typing_expressions.proofs.Steps.{operand, leaf_low, number, float_number, current_mask, yes, no, constant_on, name_within, a_name_left, name_on}
use Rattle.typing_expressions.proofs.Slots.{node_done}
use Rattle.typing_expressions.proofs.operand.Goals as goal
use Rattle.typing_expressions.proofs.operand.Goals.{in-1, in-3, in-24, in-25, in-23, in_default+in_ok-named-in_default}

pub named-requires-clause-spans : goal.named-requires-clause-spans
named-requires-clause-spans c = let leaf = c.requires.there_is.is in
    (name_within (a_name_left (operand leaf.is (leaf_low leaf)) (λ z. omega arith) (λ z. omega arith) (λ z. omega arith) (λ z. omega arith) (λ z. omega arith)), c.requires.rows.1)

pub returns-in_err-named-in_default : goal.returns-in_err-named-in_default
returns-in_err-named-in_default c = λ n l i.
    let its = a_name_left (operand i (leaf_low c.requires.there_is.is)) (λ z. omega arith) (λ z. omega arith) (λ z. omega arith) (λ z. omega arith) (λ z. omega arith) in
    rw (handed_up c.from_residual.result c.from_residual.ensures.1) (name_on its c.in_err-named-in_default.ensures)

pub returns : goal.returns
returns c = λ n l i.
    let o = operand i (leaf_low c.requires.there_is.is) in
    let room = c.requires.rows.1 in
    elim c.match-tag.branch [
      | in-1 w ↦ constant_on room number (rw w.in-1.is at o) (w.stack-is ∙ w.put.ensures)
      | in-3 w ↦ constant_on room float_number (rw w.in-3.is at o) (w.stack-is ∙ w.put-in-3.ensures)
      | in-24 w ↦ constant_on room yes (rw w.in-24.is at o) (w.stack-is ∙ w.put-in-24.ensures)
      | in-25 w ↦ constant_on room no (rw w.in-25.is at o) (w.stack-is ∙ w.put-in-25.ensures)
      | in-23 w ↦ constant_on room current_mask (rw w.in-23.is at o) (w.stack-is ∙ w.put-in-23.ensures)
      | in_default+in_ok-named-in_default w ↦ rw w.stack-is (node_done (name_on (a_name_left o (λ z. omega arith) (λ z. omega arith) (λ z. omega arith) (λ z. omega arith) (λ z. omega arith)) w.in_ok-named-in_default.ensures))
    ]
