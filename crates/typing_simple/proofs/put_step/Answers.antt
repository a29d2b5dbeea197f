-- `typing_simple::put_step` meets its contract. Assumes nothing.
use Rattle.typing_simple.proofs.Words.{step_written}
use Rattle.typing_simple.proofs.put_step.Goals as goal

pub returns : goal.returns
returns c = rw c.put_unit.ensures (step_written c.args.code.now c.args.size c.args.place c.requires)
