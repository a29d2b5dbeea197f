-- `blocks::whole` meets its contract. Assumes nothing.
use Rattle.meaning.specs.Memory.{whole}
use Rattle.blocks.proofs.Bytes.{whole_small}
use Rattle.blocks.proofs.whole.Goals as goal

pub overflow_mul-result : goal.overflow_mul-result
overflow_mul-result c = record { fits = rw c.size.ensures (whole_small c.args.kind c.args.n c.requires) }

pub returns : goal.returns
unfolding whole
returns c = rw c.size.ensures
