-- `blocks::joins` meets its contract. Assumes nothing.
use Rattle.std.proofs.Common.{rules}
use Rattle.floats.proofs.Made.{made_zip}
use Rattle.blocks.proofs.joins.Goals as goal

pub returns : goal.returns
returns c = made_zip _ _ _ _ _ _ (search rules) (search rules) (λ i v f' lt call. search rules) c.from_fn.ensures.items
