-- `ruihmento::ruihmento_judge` meets its contract. Assumes nothing.
use Rattle.ruihmento.proofs.Judging.{judge_not_called, judge-called, tellable, judge_refused, judge_accepted}
use Rattle.ruihmento.proofs.ruihmento_judge.Goals as goal

pub returns-then-answer-lt-ANSWER : goal.returns-then-answer-lt-ANSWER
returns-then-answer-lt-ANSWER c = judge_not_called _ _ c.if-answer-lt-ANSWER.true

pub tell_refusal-requires : goal.tell_refusal-requires
tell_refusal-requires c = tellable c.in-Err.ensures.1 _ c.if-answer-lt-ANSWER.false

pub returns-in-Err : goal.returns-in-Err
returns-in-Err c = judge-called _ _ c.if-answer-lt-ANSWER.false (judge_refused c.in-Err.ensures.1 _ c.tell_refusal.ensures)

pub returns-in-Ok : goal.returns-in-Ok
returns-in-Ok c = judge-called _ _ c.if-answer-lt-ANSWER.false (judge_accepted c.in-Ok.ensures.1 _ c.need.ensures c.tell.ensures)
