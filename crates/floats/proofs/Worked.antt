-- Every row of the worked values holds.
use mathlib.Core.Path.{◌≡◌, refl}
use mathlib.Core.List.{List, map}
use Prim.Native.Nat.{ℕ}
use Rattle.meaning.specs.declared.Binary.TheVariants.{Add as add, Sub as sub, Mul as mul}
use Rattle.meaning.specs.Memory.{bit}
use Rattle.meaning.specs.Floats.{negated, one_nan, whole_float}
use Rattle.meaning.specs.Running.{float_binary}
use Rattle.floats.specs.Worked.{sums, differences, products, comparing, comparisons, turned, stored, wholes}

abbrev last : List (ℕ × ℕ × ℕ) → List ℕ
last = map (λ r. r.2)

pub sums_hold : map (λ r. float_binary add r.0 r.1) sums ≡ last sums
unfolding float_binary sums
sums_hold = refl

pub differences_hold : map (λ r. float_binary sub r.0 r.1) differences ≡ last differences
unfolding float_binary differences
differences_hold = refl

pub products_hold : map (λ r. float_binary mul r.0 r.1) products ≡ last products
unfolding float_binary products
products_hold = refl

pub comparisons_hold : map (λ r. map (λ o. float_binary o r.0 r.1) comparing) comparisons ≡ map (λ r. r.2) comparisons
unfolding float_binary comparing comparisons bit
comparisons_hold = refl

pub turned_hold : map (λ r. negated r.0) turned ≡ map (λ r. r.1) turned
unfolding negated turned
turned_hold = refl

pub stored_hold : map (λ r. one_nan r.0) stored ≡ map (λ r. r.1) stored
unfolding one_nan stored
stored_hold = refl

pub wholes_hold : map (λ r. whole_float r.0) wholes ≡ map (λ r. r.1) wholes
unfolding whole_float wholes
wholes_hold = refl
