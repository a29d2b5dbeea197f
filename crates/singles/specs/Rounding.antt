-- Document 02, R-2: "each operation rounded once, to nearest, ties to even". Of a number of n / d units, all distances taken d times.
use Rattle.std.specs.Prelude.{ℕ, ◌+◌, ◌-◌, ◌*◌, ◌%◌, ◌≤◌, ◌<◌, ◌≡◌, ◌≢◌}
use Rattle.meaning.specs.Floats.{units, infinity, rounded}

-- How far two numbers are apart.
abbrev pub distance : ℕ → ℕ → ℕ
distance a b = (a - b) + (b - a)

-- How far the pattern p, without a sign, is from n / d. An infinity counts as the next number past the largest finite one: as IEEE 754
-- has it, what lies nearer to that number overflows, and what lies half way too, since the infinity's pattern is even.
abbrev pub off : ℕ → ℕ → ℕ → ℕ
off n d p = distance (units p * d) n

-- p is a single as near to n / d as any; where another is as near, p is the even one.
pub record Nearest (n d p : ℕ) : Type 0 where
  pub single : p ≤ infinity
  pub nearest : (q : ℕ) → q ≤ infinity → off n d p ≤ off n d q
  pub even : (q : ℕ) → q ≤ infinity → q ≢ p → off n d q ≡ off n d p → p % 2 ≡ 0

-- The definition rounds to nearest, ties to even;
abbrev pub RoundsToNearest : Type 0
RoundsToNearest = (n d : ℕ) → 0 < d → Nearest n d (rounded n d)

-- and no other pattern does: these words leave no choice.
abbrev pub OnlyOneNearest : Type 0
OnlyOneNearest = (n d p q : ℕ) → 0 < d → Nearest n d p → Nearest n d q → p ≡ q

-- A greater pattern stands for a greater number.
abbrev pub Increasing : Type 0
Increasing = (p q : ℕ) → p < q → q ≤ infinity → units p < units q

-- What a single stands for, an infinity included, is rounded to that single.
abbrev pub KeepsSingles : Type 0
KeepsSingles = (p d : ℕ) → 0 < d → p ≤ infinity → rounded (units p * d) d ≡ p
