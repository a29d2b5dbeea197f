-- `ruihmento::ruihmento_variables` meets its contract. Assumes nothing.
use Rattle.ruihmento.proofs.Judging.{tellable}
use Rattle.ruihmento.proofs.Listing.{variables_not_called, variables-called, variables_refused, variables_accepted}
use Rattle.ruihmento.proofs.ruihmento_variables.Goals as goal

pub returns-then-answer-lt-ANSWER : goal.returns-then-answer-lt-ANSWER
returns-then-answer-lt-ANSWER c = variables_not_called _ _ _ c.if-answer-lt-ANSWER.true

pub tell_refusal-requires : goal.tell_refusal-requires
tell_refusal-requires c = tellable c.in-Err.ensures.1 _ c.if-answer-lt-ANSWER.false

pub returns-in-Err : goal.returns-in-Err
returns-in-Err c = variables-called _ _ _ c.if-answer-lt-ANSWER.false (variables_refused c.in-Err.ensures.1 _ _ c.tell_refusal.ensures)

pub returns-in-Ok : goal.returns-in-Ok
returns-in-Ok c = variables-called _ _ _ c.if-answer-lt-ANSWER.false (variables_accepted c.in-Ok.ensures.1 _ _ c.need.ensures c.list.ensures c.tell.ensures)
