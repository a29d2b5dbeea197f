-- `floats::is_nan` meets its contract. Assumes nothing.
use Rattle.floats.proofs.Patterns.{above_infinity}
use mathlib.Core.Path.{sym}
use Rattle.floats.proofs.is_nan.Goals as goal

pub returns : goal.returns
returns c = sym (above_infinity c.args.pattern)
