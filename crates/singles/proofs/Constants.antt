-- A constant loses nothing: some single has its units.
use Prim.Native.Nat.{ℕ, ◌+◌, ◌-◌, ◌*◌, ◌^◌, ◌≤◌, ◌<◌}
use mathlib.Core.Path.{◌≡◌, refl, sym, ap, subst, ◌∙◌}
use mathlib.Core.Logic.{inr}
use mathlib.Core.Bool.{Bool, false}
use native.Mathlib.Nat.{mul_assoc, mul-one, le_trans, le_of_eq, mul-le-mul_right}
use native.Mathlib.Omega.{arith}
use lib.Dec.{eqb, ltb}
use lib.IntN.{pos}
use lib.Pow.{pow-add, shl_lt}
use lib.Ieee.{size}
use lib.Ieee.Digits.{size-lt, size-le, size_reaches}
use borrow.Author.Tests.{eqb-true, eqb-false, ltb-true, ltb-false, lt-leb}
use Rattle.meaning.specs.Floats.{negative, units_of, units, infinity, rounded, whole_float}
use Rattle.laws.proofs.Tests.{by_test}
use Rattle.singles.specs.Numbers.{with_sign, amount}
use Rattle.singles.specs.Constants.{ConstantsAreExact}
use Rattle.singles.proofs.Units.{units_at}
use Rattle.singles.proofs.Rounding.{keeps_singles}

-- A single with so many units.
record Has (n : ℕ) : Type 0 where
  at : ℕ
  fits : at ≤ infinity
  is : units at ≡ n

none : Has (0 * 2 ^ 149)
unfolding units units_of
none = record { at = 0; fits = omega arith; is = refl }

-- n has j digits: 24 - j zeros more make a significand of it.
module _ (n : ℕ) (some : 0 < n) (low : n < 2 ^ 24) where
  digits : ℕ
  digits = size n

  zeros : ℕ
  zeros = 24 - digits

  at_most : digits ≤ 24
  unfolding digits
  at_most = size-le n 24 low

  at_least : 0 < digits
  unfolding digits
  at_least = by_test (ltb 0 (size n)) (λ e. ltb-true 0 (size n) e) (λ e. absurd (empty (omega (arith, ltb-false 0 (size n) e)) (size-lt n)))
    where
      empty : size n ≡ 0 → n < 2 ^ size n → ⊥
      empty e h = let l : n < 2 ^ 0 = subst (λ (x : ℕ). n < 2 ^ x) e h in omega arith

  kept : ℕ
  kept = n * 2 ^ zeros

  kept_low : kept < 2 ^ 24
  unfolding kept zeros digits
  kept_low =
      let all : digits + zeros ≡ 24 = omega (arith, at_most) in
      subst (λ (x : ℕ). kept < 2 ^ x) all (shl_lt digits zeros (size-lt n))

  kept_high : 2 ^ 23 ≤ kept
  unfolding kept zeros digits
  kept_high =
      let all : digits - 1 + zeros ≡ 23 = omega (arith, at_most, at_least) in
      let first : 2 ^ (digits - 1) ≤ n = size_reaches n (digits - 1) (omega (arith, at_least)) in
      subst (λ (x : ℕ). 2 ^ x ≤ kept) all (le_trans (le_of_eq (pow-add 2 (digits - 1) zeros)) (mul-le-mul_right (2 ^ zeros) first))

  moved : kept * 2 ^ (149 - zeros) ≡ n * 2 ^ 149
  unfolding kept zeros
  moved =
      let all : zeros + (149 - zeros) ≡ 149 = omega arith in
      mul_assoc n (2 ^ zeros) (2 ^ (149 - zeros)) ∙ ap (λ (x : ℕ). n * x) (sym (pow-add 2 zeros (149 - zeros)) ∙ ap (λ (x : ℕ). 2 ^ x) all)

  made : Has (n * 2 ^ 149)
  made =
      let fit : (149 - zeros) * 2 ^ 23 + kept ≤ infinity = omega (arith, kept_low) in
      record {
        at = (149 - zeros) * 2 ^ 23 + kept;
        fits = fit;
        is = units_at (149 - zeros) kept (record { high = omega (arith, kept_low); low = inr kept_high }) fit ∙ moved;
      }

largest : Has (2 ^ 24 * 2 ^ 149)
largest = record {
  at = 149 * 2 ^ 23 + 2 ^ 24;
  fits = omega arith;
  is = units_at 149 (2 ^ 24) (record { high = omega arith; low = inr (omega arith) }) (omega arith);
}

has : (n : ℕ) → n ≤ 2 ^ 24 → Has (n * 2 ^ 149)
has n l =
    by_test (eqb n 0) (λ e. rw (eqb-true n 0 e) none) λ e.
    by_test (ltb n (2 ^ 24)) (λ f. made n (omega (arith, eqb-false n 0 e)) (ltb-true n (2 ^ 24) f)) λ f.
    let same : n ≡ 2 ^ 24 = omega (arith, ltb-false n (2 ^ 24) f) in
    rw same largest

pub constants_are_exact : ConstantsAreExact
unfolding whole_float amount
constants_are_exact n l =
    let h = has n l in
    let p = h.at in
    let rounds : rounded (n * 2 ^ 149) 1 ≡ p =
    ap (λ (x : ℕ). rounded x 1) (sym (mul-one (units p) ∙ h.is)) ∙ keeps_singles p 1 (omega arith) h.fits
    in
    let plain : negative p ≡ false = lt-leb (2 ^ 31) p (omega arith) in
    ap amount rounds ∙ ap (λ (s : Bool). with_sign s (units p)) plain ∙ ap pos h.is
