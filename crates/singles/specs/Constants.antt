-- Document 02, R-2: "A constant is a whole number up to 16777216 followed by `.0`."
use Rattle.std.specs.Prelude.{ℕ, ◌*◌, ◌^◌, ◌≤◌, ◌≡◌, pos}
use Rattle.meaning.specs.Floats.{whole_float}
use Rattle.singles.specs.Numbers.{amount}

-- It is that number, without loss: 2 ^ 149 units for each one.
abbrev pub ConstantsAreExact : Type 0
ConstantsAreExact = (n : ℕ) → n ≤ 16777216 → amount (whole_float n) ≡ pos (n * 2 ^ 149)
