-- `typing_simple::empty` meets its contract. Assumes nothing.
use Rattle.typing_simple.proofs.Walk.{empty_steps}
use Rattle.typing_simple.proofs.empty.Goals as goal

pub returns : goal.returns
returns c = λ s e. empty_steps e c.put_step.ensures
