-- `blocks::words` meets its contract. Assumes nothing.
use Rattle.std.proofs.Common.{◌≢◌, refl}
use Rattle.meaning.specs.declared.Binary.{Binary}
use Rattle.meaning.specs.declared.Binary.TheVariants.{Or as or, Xor as xor, And as and, Eq as eq, Ne as ne, Lt as lt, Gt as gt, Le as le, Ge as ge, Add as add, Sub as sub, Mul as mul}
use Rattle.operators.specs.Operators.{adds, subtracts, multiplies, below, above, at_most, at_least, Join, with_or, with_xor, with_and, equal, unequal}
use Rattle.blocks.proofs.words.Goals as goal

-- The operators that the last arm is for.
rest : (o : Binary) → (o ≢ add) → (o ≢ sub) → (o ≢ mul) → (o ≢ lt) → (o ≢ gt) → (o ≢ le) → (o ≢ ge) → Join o
rest or _ _ _ _ _ _ _ = with_or
rest xor _ _ _ _ _ _ _ = with_xor
rest and _ _ _ _ _ _ _ = with_and
rest eq _ _ _ _ _ _ _ = equal
rest ne _ _ _ _ _ _ _ = unequal
rest lt _ _ _ h _ _ _ = absurd (h refl)
rest gt _ _ _ _ h _ _ = absurd (h refl)
rest le _ _ _ _ _ h _ = absurd (h refl)
rest ge _ _ _ _ _ _ h = absurd (h refl)
rest add h _ _ _ _ _ _ = absurd (h refl)
rest sub _ h _ _ _ _ _ = absurd (h refl)
rest mul _ _ h _ _ _ _ = absurd (h refl)

pub sums-requires : goal.sums-requires
sums-requires c = rw c.in-Add.is adds

pub sums-requires-in-Sub : goal.sums-requires-in-Sub
sums-requires-in-Sub c = rw c.in-Sub.is subtracts

pub sums-requires-in-Mul : goal.sums-requires-in-Mul
sums-requires-in-Mul c = rw c.in-Mul.is multiplies

pub orders-requires : goal.orders-requires
orders-requires c = rw c.in-Lt.is below

pub orders-requires-in-Gt : goal.orders-requires-in-Gt
orders-requires-in-Gt c = rw c.in-Gt.is above

pub orders-requires-in-Le : goal.orders-requires-in-Le
orders-requires-in-Le c = rw c.in-Le.is at_most

pub orders-requires-in-Ge : goal.orders-requires-in-Ge
orders-requires-in-Ge c = rw c.in-Ge.is at_least

pub joins-requires : goal.joins-requires
joins-requires c = let arm = c.in_default in rest c.args.operator arm.not-Add arm.not-Sub arm.not-Mul arm.not-Lt arm.not-Gt arm.not-Le arm.not-Ge
