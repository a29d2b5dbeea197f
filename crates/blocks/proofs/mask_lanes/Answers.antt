-- `blocks::mask_lanes` meets its contract. Assumes nothing.
use Rattle.std.proofs.Common.{rules}
use Rattle.floats.proofs.Made.{made}
use Rattle.blocks.proofs.Masks.{length_mask, mask_at}
use Rattle.blocks.proofs.mask_lanes.Goals as goal

pub returns : goal.returns
returns c = made _ _ _ _ (λ i v f' lt call. search rules) c.from_fn.ensures.items _ (length_mask 16 c.args.mask) (mask_at 16 c.args.mask)
