-- The number that a pattern stands for, in units of 2 ^ -149.
use Rattle.std.specs.Prelude.{ℕ, ◌^◌, ◌<◌, ◌≡◌, ◌⊎◌, Bool, true, false, cond, ℤ, pos, neg_ℤ}
use Rattle.meaning.specs.Floats.{negative, exponent, is_nan, is_infinite, units}

-- A size with a sign.
abbrev pub with_sign : Bool → ℕ → ℤ
with_sign s v = cond s (neg_ℤ (pos v)) (pos v)

-- An infinity counts as the first number past the largest finite one, 2 ^ 277 units, with its sign.
unfoldable pub amount : ℕ → ℤ
amount a = with_sign (negative a) (units a)

-- A pattern that is a not-a-number's; any other; an infinity's; a number's.
abbrev pub ANan : ℕ → Type 0
ANan a = is_nan a ≡ true

abbrev pub NoNan : ℕ → Type 0
NoNan a = is_nan a ≡ false

abbrev pub Infinite : ℕ → Type 0
Infinite a = is_infinite a ≡ true

abbrev pub Finite : ℕ → Type 0
Finite a = exponent a < 255

-- Every pattern is one of the three.
abbrev pub OneOfThree : Type 0
OneOfThree = (a : ℕ) → ANan a ⊎ (Infinite a ⊎ Finite a)

-- No number has two patterns, but zero.
abbrev pub OnePattern : Type 0
OnePattern = (a b : ℕ) → a < 2 ^ 32 → b < 2 ^ 32 → NoNan a → NoNan b → amount a ≡ amount b → (a ≡ b) ⊎ (amount a ≡ pos 0)
