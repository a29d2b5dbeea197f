-- The binary operators that compare singles.
use Rattle.meaning.specs.declared.Binary.{Binary}
use Rattle.meaning.specs.declared.Binary.TheVariants.{Eq as eq, Ne as ne, Lt as lt, Gt as gt, Le as le, Ge as ge}

-- `==`, `!=`, `<`, `>`, `<=`, `>=`
pub data Compares : Binary → Type 0 where
  equal : Compares eq
  unequal : Compares ne
  below : Compares lt
  above : Compares gt
  at_most : Compares le
  at_least : Compares ge
