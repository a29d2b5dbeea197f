-- `floats::one_nan` meets its contract. Assumes nothing.
use Rattle.meaning.specs.Floats.{one_nan}
use Rattle.floats.proofs.one_nan.Goals as goal

pub returns-then-is_nan : goal.returns-then-is_nan
unfolding one_nan
returns-then-is_nan c = rw (← c.is_nan.ensures, c.if-is_nan.true)

pub returns-else-is_nan : goal.returns-else-is_nan
unfolding one_nan
returns-else-is_nan c = rw (← c.is_nan.ensures, c.if-is_nan.false)
