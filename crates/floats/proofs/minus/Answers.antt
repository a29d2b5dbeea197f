-- `floats::minus` meets its contract. Assumes nothing.
use Rattle.floats.proofs.Patterns.{negated_agrees}
use Rattle.floats.proofs.minus.Goals as goal

pub returns : goal.returns
returns c = cc (negated_agrees c.args.x)
