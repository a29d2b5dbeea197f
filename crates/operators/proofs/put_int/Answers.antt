-- `operators::put_int` meets its contract. Assumes nothing.
use Rattle.std.proofs.Common.{◌∙◌}
use Rattle.operators.proofs.Bytes.{int_bytes}
use Rattle.operators.proofs.put_int.Goals as goal

pub returns : goal.returns
returns c = c.copy_from_slice.ensures.after ∙ c.to_le_bytes.ensures ∙ int_bytes c.args.x
