-- All statements of this crate hold.
use Rattle.singles.specs.Singles.{Singles}
use Rattle.singles.proofs.Patterns.{results_are_storable}
use Rattle.singles.proofs.Units.{increasing}
use Rattle.singles.proofs.Rounding.{rounds_to_nearest, only_one_nearest, keeps_singles}
use Rattle.singles.proofs.Comparisons.{below_is_less, level_is_same, nans_compare_false, nans_are_unequal, zeros_are_equal}
use Rattle.singles.proofs.OnePattern.{one_pattern}
use Rattle.singles.proofs.Numbers.{one_of_three, negated_is_exact}
use Rattle.singles.proofs.Operations.{single_is_nearest, sums_are_rounded, differences_are_rounded, products_are_rounded, nans_stay, sums_of_infinities, differences_of_infinities, products_of_infinities}
use Rattle.singles.proofs.Constants.{constants_are_exact}

pub singles : Singles
singles = record {
  one_of_three = one_of_three;
  one_pattern = one_pattern;
  increasing = increasing;
  storable = results_are_storable;
  nearest = rounds_to_nearest;
  only_one = only_one_nearest;
  kept = keeps_singles;
  single = single_is_nearest;
  sums = sums_are_rounded;
  differences = differences_are_rounded;
  products = products_are_rounded;
  opposites = negated_is_exact;
  constants = constants_are_exact;
  infinite_sums = sums_of_infinities;
  infinite_differences = differences_of_infinities;
  infinite_products = products_of_infinities;
  nans = nans_stay;
  below = below_is_less;
  level = level_is_same;
  nans_apart = nans_compare_false;
  nans_unequal = nans_are_unequal;
  zeros = zeros_are_equal;
}
