-- What holds of the definition of singles, `meaning/specs/Floats.antt`: all statements of this crate.
use Rattle.singles.specs.Patterns.{ResultsAreStorable}
use Rattle.singles.specs.Rounding.{Increasing, RoundsToNearest, OnlyOneNearest, KeepsSingles}
use Rattle.singles.specs.Numbers.{OneOfThree, OnePattern}
use Rattle.singles.specs.Comparisons.{BelowIsLess, LevelIsSame, NansCompareFalse, NansAreUnequal, ZerosAreEqual}
use Rattle.singles.specs.Operations.{SingleIsNearest, SumsAreRounded, DifferencesAreRounded, ProductsAreRounded, NegatedIsExact, NansStay, SumsOfInfinities, DifferencesOfInfinities, ProductsOfInfinities}
use Rattle.singles.specs.Constants.{ConstantsAreExact}

pub record Singles : Type 0 where
  -- patterns and the numbers that they stand for
  pub one_of_three : OneOfThree
  pub one_pattern : OnePattern
  pub increasing : Increasing
  pub storable : ResultsAreStorable
  -- rounding
  pub nearest : RoundsToNearest
  pub only_one : OnlyOneNearest
  pub kept : KeepsSingles
  pub single : SingleIsNearest
  -- operations
  pub sums : SumsAreRounded
  pub differences : DifferencesAreRounded
  pub products : ProductsAreRounded
  pub opposites : NegatedIsExact
  pub constants : ConstantsAreExact
  -- infinities and not-a-numbers
  pub infinite_sums : SumsOfInfinities
  pub infinite_differences : DifferencesOfInfinities
  pub infinite_products : ProductsOfInfinities
  pub nans : NansStay
  -- comparisons
  pub below : BelowIsLess
  pub level : LevelIsSame
  pub nans_apart : NansCompareFalse
  pub nans_unequal : NansAreUnequal
  pub zeros : ZerosAreEqual
