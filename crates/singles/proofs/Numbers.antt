-- Which patterns are finite, infinite and not-a-numbers, and what turning the sign of one does.
use Prim.Native.Nat.{ℕ, ◌+◌, ◌%◌, ◌^◌, ◌<◌}
use mathlib.Core.Path.{◌≡◌, refl, sym, ap, ap₂, ◌∙◌}
use mathlib.Core.Logic.{inl, inr}
use mathlib.Core.Bool.{Bool, true, false, not, ◌&&◌}
use native.Mathlib.Omega.{arith}
use lib.Dec.{eqb}
use lib.IntN.{pos, neg_ℤ, neg_ℤ-neg_ℤ}
use borrow.Author.Tests.{ne_eqb, le-leb, lt-leb, eqb-false}
use Rattle.meaning.specs.Floats.{negative, exponent, fraction, is_nan, is_infinite, units_of, units, signed, negated}
use Rattle.laws.proofs.Tests.{by_test}
use Rattle.singles.specs.Numbers.{with_sign, amount, NoNan, Infinite, Finite, OneOfThree}
use Rattle.singles.specs.Operations.{NegatedIsExact}

module _ (a : ℕ) where
  pub finite_no_nan : Finite a → NoNan a
  finite_no_nan l = ap (λ (b : Bool). b && not (eqb (fraction a) 0)) (ne_eqb (exponent a) 255 (λ e. omega arith))

  pub finite_not_infinite : Finite a → is_infinite a ≡ false
  finite_not_infinite l = ap (λ (b : Bool). b && eqb (fraction a) 0) (ne_eqb (exponent a) 255 (λ e. omega arith))

  pub infinite_no_nan : Infinite a → NoNan a
  infinite_no_nan i = go (eqb (exponent a) 255) (eqb (fraction a) 0) i
    where
      go : (x t : Bool) → (x && t) ≡ true → (x && not t) ≡ false
      go true true e = refl
      go true false e = sym e
      go false t e = refl

pub one_of_three : OneOfThree
one_of_three a =
    by_test (eqb (exponent a) 255)
    (λ e. by_test (eqb (fraction a) 0) (λ f. inr (inl (rw (e, f)))) (λ f. inl (rw (e, f))))
    (λ e. inr (inr (omega (arith, eqb-false (exponent a) 255 e))))

-- A pattern of 31 bits with a sign.
module _ (s : Bool) (p : ℕ) (low : p < 2 ^ 31) where
  pub signed-negative : negative (signed s p) ≡ s
  signed-negative = go s
    where
      go : (s : Bool) → negative (signed s p) ≡ s
      go true = le-leb (2 ^ 31) (2 ^ 31 + p) (omega arith)
      go false = lt-leb (2 ^ 31) (0 + p) (omega arith)

  pub signed-exponent : exponent (signed s p) ≡ exponent p
  signed-exponent = go s
    where
      go : (s : Bool) → exponent (signed s p) ≡ exponent p
      go true = omega arith
      go false = omega arith

  pub signed-fraction : fraction (signed s p) ≡ fraction p
  signed-fraction = go s
    where
      go : (s : Bool) → fraction (signed s p) ≡ fraction p
      go true = omega arith
      go false = omega arith

  pub signed-size : signed s p % 2 ^ 31 ≡ p
  signed-size = go s
    where
      go : (s : Bool) → signed s p % 2 ^ 31 ≡ p
      go true = omega arith
      go false = omega arith

-- The sign of a pattern that is no not-a-number, turned.
module _ (a : ℕ) (number : NoNan a) where
  turned : negated a ≡ signed (not (negative a)) (a % 2 ^ 31)
  unfolding negated
  turned = rw number

  low : a % 2 ^ 31 < 2 ^ 31
  low = omega arith

  pub negated-negative : negative (negated a) ≡ not (negative a)
  negated-negative = ap negative turned ∙ signed-negative (not (negative a)) (a % 2 ^ 31) low

  pub negated-exponent : exponent (negated a) ≡ exponent a
  negated-exponent =
      let once : exponent (a % 2 ^ 31) ≡ exponent a = omega arith in
      ap (λ (x : ℕ). exponent x) turned ∙ signed-exponent (not (negative a)) (a % 2 ^ 31) low ∙ once

  pub negated-fraction : fraction (negated a) ≡ fraction a
  negated-fraction =
      let once : fraction (a % 2 ^ 31) ≡ fraction a = omega arith in
      ap (λ (x : ℕ). fraction x) turned ∙ signed-fraction (not (negative a)) (a % 2 ^ 31) low ∙ once

  pub negated-units : units (negated a) ≡ units a
  unfolding units
  negated-units = ap₂ units_of negated-exponent negated-fraction

  pub negated-number : is_nan (negated a) ≡ is_nan a
  negated-number = ap₂ (λ (x t : ℕ). eqb x 255 && not (eqb t 0)) negated-exponent negated-fraction

  pub negated_infinite : is_infinite (negated a) ≡ is_infinite a
  negated_infinite = ap₂ (λ (x t : ℕ). eqb x 255 && eqb t 0) negated-exponent negated-fraction

opposite : (s : Bool) (v : ℕ) → with_sign (not s) v ≡ neg_ℤ (with_sign s v)
opposite true v = sym (neg_ℤ-neg_ℤ (pos v))
opposite false v = refl

pub negated_is_exact : NegatedIsExact
unfolding amount
negated_is_exact a n = (ap₂ with_sign (negated-negative a n) (negated-units a n) ∙ opposite (negative a) (units a), negated-negative a n)
