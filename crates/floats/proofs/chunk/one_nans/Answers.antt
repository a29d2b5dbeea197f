-- `floats::chunk::one_nans` meets its contract. Assumes nothing.
use Rattle.std.proofs.Common.{rules}
use Rattle.floats.proofs.Made.{made_map}
use Rattle.floats.proofs.chunk.one_nans.Goals as goal

pub returns : goal.returns
returns c = made_map _ _ _ _ _ (search rules) (λ i v f' lt call. search rules) c.from_fn.ensures.items
