-- What the operations give: a pattern of 32 bits, and of the not-a-numbers the one that is stored.
use Rattle.std.specs.Prelude.{ℕ, ◌^◌, ◌<◌}
use Rattle.meaning.specs.Floats.{one_nan, plus, minus, times, negated, whole_float}
use Rattle.laws.specs.Floats.{Storable}

-- Every operation gives such a pattern, whatever its operands are; and so do a constant, and a store of any 32 bits.
pub record ResultsAreStorable : Type 0 where
  pub sum : (a b : ℕ) → Storable (plus a b)
  pub difference : (a b : ℕ) → Storable (minus a b)
  pub product : (a b : ℕ) → Storable (times a b)
  pub opposite : (a : ℕ) → Storable (negated a)
  pub constant : (n : ℕ) → Storable (whole_float n)
  pub stored : (a : ℕ) → a < 2 ^ 32 → Storable (one_nan a)
