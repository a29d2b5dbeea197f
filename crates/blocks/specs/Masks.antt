-- A mask as an unsigned number, one bit a lane: lane i is bit i.
use Rattle.std.specs.Prelude.{ℕ, zero, suc, ◌+◌, ◌*◌, ◌/◌, ◌%◌, ◌<◌, List, [], ◌∷◌, eqb, length, get_or}
use Rattle.meaning.specs.Memory.{Mask, bit}

-- Every lane is 0 or 1, as those of a bool are.
pub record ZeroOrOne (x : List ℕ) : Type 0 where
  pub low : (i : ℕ) → i < length x → get_or x i 0 < 2

-- The mask of n lanes that a number holds.
unfoldable pub bits : ℕ → ℕ → Mask
bits zero m = []
bits (suc n) m = eqb (m % 2) 1 ∷ bits n (m / 2)

-- The number that holds a mask.
unfoldable pub number : Mask → ℕ
number [] = 0
number (c ∷ m) = number m * 2 + bit c
