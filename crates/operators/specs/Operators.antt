-- The binary operators in the groups that the code goes through.
use Rattle.std.specs.Prelude.{ℕ}
use Rattle.meaning.specs.declared.Binary.{Binary}
use Rattle.meaning.specs.declared.Binary.TheVariants.{Or as or, Xor as xor, And as and, Eq as eq, Ne as ne, Lt as lt, Gt as gt, Le as le, Ge as ge, Add as add, Sub as sub, Mul as mul}

-- The bytes of an int.
abbrev pub int_size : ℕ
int_size = 4

-- `+`, `-`, `*`
pub data Sum : Binary → Type 0 where
  adds : Sum add
  subtracts : Sum sub
  multiplies : Sum mul

-- `<`, `>`, `<=`, `>=`
pub data Order : Binary → Type 0 where
  below : Order lt
  above : Order gt
  at_most : Order le
  at_least : Order ge

-- `|`, `^`, `&`, `==`, `!=`
pub data Join : Binary → Type 0 where
  with_or : Join or
  with_xor : Join xor
  with_and : Join and
  equal : Join eq
  unequal : Join ne
