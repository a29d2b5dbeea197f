-- `ruihmento::tell` meets its contract. Assumes nothing.
use mathlib.Core.Path.{◌∙◌}
use Rattle.ruihmento.proofs.Slices.{row_in_front}
use Rattle.ruihmento.proofs.tell.Goals as goal

pub returns : goal.returns
returns c = c.put_four.ensures ∙ row_in_front _ _ _ _ _ c.requires
