-- `floats::single` meets its contract: 0 / 0 is the not-a-number. Assumes nothing.
use mathlib.Core.Path.{◌≡◌, refl, sym, ◌∙◌, subst}
use mathlib.Core.Bool.{true}
use lib.Dec.{T}
use lib.Ieee.{Float, nan, inf, fin, binary32, of_bits, is_nan, div}
use lib.Ieee.Bits.{nan_bits_is}
use Rattle.floats.proofs.Patterns.{nan_pattern}
use Rattle.floats.proofs.single.Goals as goal

only_nan : (x : Float) → is_nan x ≡ true → nan ≡ x
unfolding is_nan
only_nan nan t = refl
only_nan (inf s) t = absurd (subst T (sym t) tt)
only_nan (fin s m e) t = absurd (subst T (sym t) tt)

zero_by_zero : div binary32 (of_bits binary32 0) (of_bits binary32 0) ≡ nan
unfolding div of_bits
zero_by_zero = refl

pub float_from_bits-result : goal.float_from_bits-result
float_from_bits-result c = rw (nan_pattern c.args.pattern, ← c.is_nan.ensures, c.if-is_nan.false) tt

pub returns-then-is_nan : goal.returns-then-is_nan
returns-then-is_nan c = let p = c.args.pattern in
    zero_by_zero
    ∙ only_nan (of_bits binary32 p) (sym (nan_bits_is binary32 p) ∙ nan_pattern p ∙ sym c.is_nan.ensures ∙ c.if-is_nan.true)
