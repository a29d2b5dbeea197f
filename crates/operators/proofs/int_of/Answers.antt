-- `operators::int_of` meets its contract. Assumes nothing.
use Rattle.operators.proofs.Bytes.{int_lane}
use Rattle.operators.proofs.int_of.Goals as goal

pub returns : goal.returns
returns c = rw c.from_le_bytes.ensures (int_lane c.args.four.now c.requires)
