-- `ruihmento::ruihmento_run` meets its contract.
use Rattle.ruihmento.proofs.Images.{run_not_called, run-called}
use Rattle.ruihmento.proofs.ruihmento_run.Goals as goal

pub returns-then-answer-lt-ANSWER : goal.returns-then-answer-lt-ANSWER
returns-then-answer-lt-ANSWER c = run_not_called _ _ _ _ c.if-answer-lt-ANSWER.true

pub returns : goal.returns
returns c = run-called _ _ _ _ c.if-answer-lt-ANSWER.false c.run_images.ensures
