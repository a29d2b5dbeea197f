-- What the operations on singles give: a pattern of 32 bits, and of the not-a-numbers the one that is stored.
use Rattle.std.specs.Prelude.{ℕ, ◌^◌, ◌<◌, ◌≡◌}
use Rattle.meaning.specs.Floats.{one_nan}

-- A pattern that a store leaves as it is.
pub record Storable (a : ℕ) : Type 0 where
  pub fits : a < 2 ^ 32
  pub stays : one_nan a ≡ a
