-- Document 02, R-2: "all comparisons", "comparisons with [a not-a-number] are false, except `!=`. Zero equals minus zero."
use Rattle.std.specs.Prelude.{ℕ, ◌^◌, ◌≡◌, Bool, true, false, ◌||◌, ◌<ℤ◌}
use Rattle.meaning.specs.declared.Binary.TheVariants.{Eq as eq, Ne as ne, Lt as lt, Gt as gt, Le as le, Ge as ge}
use Rattle.meaning.specs.Floats.{is_nan, below, level}
use Rattle.meaning.specs.Running.{float_binary}
use Rattle.singles.specs.Numbers.{amount, NoNan}

-- A test that passes exactly where P holds.
pub record Exactly (test : Bool) (P : Type 0) : Type 0 where
  pub only : test ≡ true → P
  pub whenever : P → test ≡ true

-- One is below another exactly where its number is less, subnormal ones and infinities included;
abbrev pub BelowIsLess : Type 0
BelowIsLess = (a b : ℕ) → NoNan a → NoNan b → Exactly (below a b) (amount a <ℤ amount b)

-- they are level exactly where they stand for the same number.
abbrev pub LevelIsSame : Type 0
LevelIsSame = (a b : ℕ) → NoNan a → NoNan b → Exactly (level a b) (amount a ≡ amount b)

-- A not-a-number is neither below nor level with anything, itself included.
abbrev pub NansCompareFalse : Type 0
NansCompareFalse = (a b : ℕ) → (is_nan a || is_nan b) ≡ true → (below a b ≡ false) × (level a b ≡ false)

-- So of the operators with one `!=` gives true, and each other false;
pub record UnequalAlone (a b : ℕ) : Type 0 where
  pub unequal : float_binary ne a b ≡ 1
  pub equal : float_binary eq a b ≡ 0
  pub less : float_binary lt a b ≡ 0
  pub more : float_binary gt a b ≡ 0
  pub at_most : float_binary le a b ≡ 0
  pub at_least : float_binary ge a b ≡ 0

abbrev pub NansAreUnequal : Type 0
NansAreUnequal = (a b : ℕ) → (is_nan a || is_nan b) ≡ true → UnequalAlone a b

-- and `==` gives true of zero and minus zero.
abbrev pub ZerosAreEqual : Type 0
ZerosAreEqual = float_binary eq 0 (2 ^ 31) ≡ 1
