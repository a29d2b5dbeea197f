-- What the operations give are patterns of 32 bits, which a store leaves as they are.
use Rattle.laws.proofs.Floats.{plus-storable, minus-storable, times-storable, negated-storable, whole-storable, one_nan-storable}
use Rattle.singles.specs.Patterns.{ResultsAreStorable}

pub results_are_storable : ResultsAreStorable
results_are_storable = record {
  sum = plus-storable;
  difference = minus-storable;
  product = times-storable;
  opposite = negated-storable;
  constant = whole-storable;
  stored = one_nan-storable;
}
