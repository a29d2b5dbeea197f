-- `ruihmento::how_many` meets its contract. Assumes nothing.
use mathlib.Core.Path.{◌∙◌}
use native.Mathlib.Omega.{arith}
use Rattle.ruihmento.proofs.Images.{none_whole, some_whole}
use Rattle.ruihmento.proofs.how_many.Goals as goal

pub returns-then-size-eq0 : goal.returns-then-size-eq0
returns-then-size-eq0 c = none_whole _ _ _ c.if-size-eq0.true

pub returns : goal.returns
returns c = c.min.ensures ∙ some_whole _ _ _ (omega arith)
