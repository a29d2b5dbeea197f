-- `floats::sum` meets its contract. Assumes nothing.
use Rattle.meaning.specs.Running.{float_binary}
use Rattle.floats.proofs.Arithmetic.{plus_agrees, minus_agrees, times_agrees}
use Rattle.operators.proofs.Last.{last_sum}
use Rattle.floats.proofs.sum.Goals as goal

pub returns-in-Add : goal.returns-in-Add
unfolding float_binary
returns-in-Add c = rw c.in-Add.is (cc (plus_agrees c.args.x c.args.y))

pub returns-in-Sub : goal.returns-in-Sub
unfolding float_binary
returns-in-Sub c = rw c.in-Sub.is (cc (minus_agrees c.args.x c.args.y))

pub returns-in_default : goal.returns-in_default
unfolding float_binary
returns-in_default c = rw (last_sum c.requires c.in_default.not-Add c.in_default.not-Sub) (cc (times_agrees c.args.x c.args.y))
