-- `blocks::singles` meets its contract. Assumes nothing.
use borrow.Enum.Refused.{opened}
use mathlib.Core.Path.{◌∙◌}
use Rattle.meaning.specs.Running.{float_binary}
use Rattle.operators.specs.Operators.{adds, subtracts, multiplies}
use Rattle.floats.specs.Comparisons.{equal, unequal, below, above, at_most, at_least}
use Rattle.blocks.proofs.ByKind.{no_binary, zip_zeros}
use borrow.Author.Rules.{rules}
use Rattle.blocks.proofs.singles.Goals as goal

pub sums-requires : goal.sums-requires
sums-requires c = rw c.in-Add.is adds

pub sums-requires-in-Sub : goal.sums-requires-in-Sub
sums-requires-in-Sub c = rw c.in-Sub.is subtracts

pub sums-requires-in-Mul : goal.sums-requires-in-Mul
sums-requires-in-Mul c = rw c.in-Mul.is multiplies

pub orders-requires : goal.orders-requires
orders-requires c = rw c.in-Eq.is equal

pub orders-requires-in-Ne : goal.orders-requires-in-Ne
orders-requires-in-Ne c = rw c.in-Ne.is unequal

pub orders-requires-in-Lt : goal.orders-requires-in-Lt
orders-requires-in-Lt c = rw c.in-Lt.is below

pub orders-requires-in-Gt : goal.orders-requires-in-Gt
orders-requires-in-Gt c = rw c.in-Gt.is above

pub orders-requires-in-Le : goal.orders-requires-in-Le
orders-requires-in-Le c = rw c.in-Le.is at_most

pub orders-requires-in-Ge : goal.orders-requires-in-Ge
orders-requires-in-Ge c = rw c.in-Ge.is at_least

pub returns-in-Or : goal.returns-in-Or
returns-in-Or c = let a = c.args in
    c.all.ensures ∙ zip_zeros (float_binary a.operator) (no_binary a.operator (search opened)) 16 a.x a.y (search rules) (search rules)
