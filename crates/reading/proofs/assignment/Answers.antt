-- `assignment` reads a name and its value, and writes the head before it.
use native.Mathlib.Omega.{arith}
use borrow.Author.Rules.{rules}
use Rattle.meaning.specs.Tokens.{the, words, marks, numbered, reserved, signs}
use Rattle.reading_expressions.proofs.Laws.{seen}
use Rattle.reading_expressions.proofs.Answers.{ready_behind, hands_up, shows_then}
use Rattle.reading.proofs.LawsValue as law
use Rattle.reading.proofs.assignment.Goals as goal

pub value-requires : goal.value-requires
unfolding the words marks numbered reserved signs
value-requires c = ready_behind c.requires.ready_to_read c.requires.at_value (omega arith)

pub returns-in_err-right : goal.returns-in_err-right
returns-in_err-right c = hands_up c.in_err-right.ensures c.from_residual.ensures.1 (λ ts h said. law.assign_refused _ (seen h (search rules)) (search) said)

pub returns : goal.returns
returns c = let right = c.in_ok-right.ensures in
    shows_then right c.put_head.ensures.0 (λ m. omega arith)
    (λ ts h d. law.assign_read _ (seen h c.requires.ready_to_read.within) c.requires.at_value (omega (arith, c.requires, right.moved)) (omega (arith, c.requires, right.moved, c.value.auto))
    (rw c.value-end.ensures at d) (rw c.place-place.ensures at c.put_head.ensures.1))
