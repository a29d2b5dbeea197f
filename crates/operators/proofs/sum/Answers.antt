-- `operators::sum` meets its contract. Assumes nothing.
use Rattle.meaning.specs.Running.{word_binary, word}
use Rattle.operators.proofs.Last.{last_sum}
use Rattle.operators.proofs.sum.Goals as goal

pub returns-in_default : goal.returns-in_default
unfolding word_binary word
returns-in_default c = rw (last_sum c.requires c.in_default.not-Add c.in_default.not-Sub)
