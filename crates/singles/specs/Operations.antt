-- Document 02, R-2: "`+ - *`, unary minus .., each operation rounded once, to nearest, ties to even".
use Rattle.std.specs.Prelude.{ℕ, zero, suc, ◌%◌, ◌^◌, ◌<◌, ◌≡◌, ◌≢◌, ◌⊎◌, Bool, true, false, not, ◌&&◌, ◌||◌, ℤ, pos, negsuc, nat_abs, neg_ℤ, ◌+ℤ◌, ◌-ℤ◌, ◌*ℤ◌}
use Rattle.meaning.specs.Floats.{negative, is_nan, units, infinity, rounded, signed, unlike, the_nan, plus, minus, times, negated}
use Rattle.singles.specs.Rounding.{Nearest}
use Rattle.singles.specs.Numbers.{amount, ANan, NoNan, Infinite, Finite}

-- The sign of a number, where that of zero is s.
abbrev pub sign_of : Bool → ℤ → Bool
sign_of s (pos zero) = s
sign_of s (pos (suc n)) = false
sign_of s (negsuc n) = true

-- The single nearest to z / d units: the sign is that of z, also where the size is rounded to zero, and s where z is exactly zero.
unfoldable pub nearest_single : Bool → ℤ → ℕ → ℕ
nearest_single s z d = signed (sign_of s z) (rounded (nat_abs z) d)

-- It has that sign, and without the sign it is nearest to the size of z / d.
abbrev pub SingleIsNearest : Type 0
SingleIsNearest =
    (s : Bool) (z : ℤ) (d : ℕ) → 0 < d →
    (negative (nearest_single s z d) ≡ sign_of s z) × Nearest (nat_abs z) d (nearest_single s z d % 2 ^ 31)

-- A sum is the exact sum, rounded once. A zero is -0 where both are negative.
abbrev pub SumsAreRounded : Type 0
SumsAreRounded = (a b : ℕ) → Finite a → Finite b → plus a b ≡ nearest_single (negative a && negative b) (amount a +ℤ amount b) 1

-- A difference is the exact difference, rounded once. A zero is -0 where the first is negative and the second is not.
abbrev pub DifferencesAreRounded : Type 0
DifferencesAreRounded =
    (a b : ℕ) → Finite a → Finite b → minus a b ≡ nearest_single (negative a && not (negative b)) (amount a -ℤ amount b) 1

-- A product is the exact product, rounded once: of two numbers of units, divided by 2 ^ 149. A zero is -0 where the signs are unlike.
abbrev pub ProductsAreRounded : Type 0
ProductsAreRounded =
    (a b : ℕ) → Finite a → Finite b → times a b ≡ nearest_single (unlike (negative a) (negative b)) (amount a *ℤ amount b) (2 ^ 149)

-- Unary minus is exact, and turns the sign of zeros and infinities too.
abbrev pub NegatedIsExact : Type 0
NegatedIsExact = (a : ℕ) → NoNan a → (amount (negated a) ≡ neg_ℤ (amount a)) × (negative (negated a) ≡ not (negative a))

-- A not-a-number gives the one not-a-number.
pub record NansStay : Type 0 where
  pub sum : (a b : ℕ) → (is_nan a || is_nan b) ≡ true → plus a b ≡ the_nan
  pub difference : (a b : ℕ) → (is_nan a || is_nan b) ≡ true → minus a b ≡ the_nan
  pub product : (a b : ℕ) → (is_nan a || is_nan b) ≡ true → times a b ≡ the_nan
  pub opposite : (a : ℕ) → ANan a → negated a ≡ the_nan

-- A sum or a difference with an infinity: the infinity, and a not-a-number of two that stand against each other. The second counts with
-- the sign `turned`.
pub record InfiniteSums (sum : ℕ → ℕ → ℕ) (turned : Bool → Bool) : Type 0 where
  pub first : (a b : ℕ) → Infinite a → Finite b → sum a b ≡ signed (negative a) infinity
  pub second : (a b : ℕ) → Finite a → Infinite b → sum a b ≡ signed (turned (negative b)) infinity
  pub alike : (a b : ℕ) → Infinite a → Infinite b → negative a ≡ turned (negative b) → sum a b ≡ signed (negative a) infinity
  pub against : (a b : ℕ) → Infinite a → Infinite b → negative a ≢ turned (negative b) → sum a b ≡ the_nan

abbrev pub SumsOfInfinities : Type 0
SumsOfInfinities = InfiniteSums plus (λ s. s)

abbrev pub DifferencesOfInfinities : Type 0
DifferencesOfInfinities = InfiniteSums minus not

-- A product with an infinity: an infinity, and a not-a-number where the other is zero.
pub record ProductsOfInfinities : Type 0 where
  pub some :
      (a b : ℕ) → NoNan a → NoNan b → Infinite a ⊎ Infinite b → units a ≢ 0 → units b ≢ 0 →
      times a b ≡ signed (unlike (negative a) (negative b)) infinity
  pub none : (a b : ℕ) → NoNan a → NoNan b → Infinite a ⊎ Infinite b → (units a ≡ 0) ⊎ (units b ≡ 0) → times a b ≡ the_nan
