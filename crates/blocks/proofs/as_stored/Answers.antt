-- `blocks::as_stored` meets its contract. Assumes nothing.
use borrow.Enum.Refused.{opened}
use Rattle.blocks.specs.Chunks.{lane_stored}
use Rattle.blocks.proofs.ByKind.{stored_same}
use Rattle.blocks.proofs.as_stored.Goals as goal

pub returns-in-Int : goal.returns-in-Int
returns-in-Int c = let a = c.args in stored_same a.kind (search opened) a.x

pub returns-in-Float : goal.returns-in-Float
unfolding lane_stored
returns-in-Float c = rw c.in-Float.is c.one_nans.ensures
