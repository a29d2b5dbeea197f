-- `numbers::put_number` meets its contract: the bytes copied are the number's, the lowest first. Assumes nothing.
use mathlib.Core.Path.{◌∙◌}
use Rattle.numbers.proofs.Stores.{copied}
use Rattle.numbers.proofs.put_number.Goals as goal

pub returns : goal.returns
returns c = copied c.args.bytes.now c.copy_from_slice.new.self c.args.at c.args.number c.requires (c.copy_from_slice.ensures.after ∙ c.to_le_bytes.ensures)
