-- No number has two patterns, but zero: two with one size and one sign are the same.
use Prim.Native.Nat.{ℕ, ◌%◌, ◌^◌, ◌<◌}
use mathlib.Core.Path.{◌≡◌, sym, ap₂, ◌∙◌}
use mathlib.Core.Logic.{inl, inr}
use mathlib.Core.Bool.{not}
use native.Mathlib.Omega.{arith}
use lib.Dec.{eqb}
use borrow.Author.Tests.{leb-true, leb-false}
use Rattle.meaning.specs.Floats.{negative, exponent, fraction, units_of, units, unlike}
use Rattle.laws.proofs.Tests.{or_cases, by_test}
use Rattle.laws.proofs.Floats.{no_nan_low}
use Rattle.singles.specs.Numbers.{amount, NoNan, OnePattern}
use Rattle.singles.proofs.Rounding.{same_units}
use Rattle.singles.proofs.Signs.{no_sign, one_sign, sizes, alike}

-- A pattern has its units without its sign too.
unsigned : (a : ℕ) → units a ≡ units (a % 2 ^ 31)
unfolding units
unsigned a =
    let x : exponent a ≡ exponent (a % 2 ^ 31) = omega arith in
    let t : fraction a ≡ fraction (a % 2 ^ 31) = omega arith in
    ap₂ units_of x t

module _ (a b : ℕ) (low : a < 2 ^ 32) (low' : b < 2 ^ 32) (n : NoNan a) (m : NoNan b) where
  same_pattern : negative a ≡ negative b → units a ≡ units b → a ≡ b
  same_pattern s e =
      let same : a % 2 ^ 31 ≡ b % 2 ^ 31 =
      same_units (a % 2 ^ 31) (b % 2 ^ 31) (no_nan_low a n) (no_nan_low b m) (sym (unsigned a) ∙ e ∙ unsigned b)
      in
      by_test (negative a)
      (λ t. omega (arith, leb-true (2 ^ 31) a t, leb-true (2 ^ 31) b (sym s ∙ t)))
      (λ t. omega (arith, leb-false (2 ^ 31) a t, leb-false (2 ^ 31) b (sym s ∙ t)))

pub one_pattern : OnePattern
unfolding amount
one_pattern a b low low' n m e =
    or_cases (eqb (units a) 0) (not (unlike (negative a) (negative b)))
    (alike (negative a) (negative b) (units a) (units b) e)
    (λ z. inr (no_sign (negative a) (units a) z))
    (λ s. inl (same_pattern a b low low' n m (one_sign (negative a) (negative b) s) (sizes (negative a) (negative b) (units a) (units b) e)))
