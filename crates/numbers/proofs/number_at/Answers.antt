-- `numbers::number_at` meets its contract: the library's number of four bytes is the definition's. Assumes nothing.
use mathlib.Core.Path.{◌∙◌}
use Rattle.numbers.proofs.Stores.{same_number}
use Rattle.numbers.proofs.number_at.Goals as goal

pub returns : goal.returns
returns c = c.from_le_bytes.ensures ∙ same_number c.args.bytes.now c.args.at c.requires
