-- Words bit by bit: `&`, `|`, `^` and `~`.
use Prim.Native.Nat.{ℕ, zero, suc, ◌+◌, ◌-◌, ◌/◌, ◌%◌, ◌^◌, ◌<◌, min, max}
use mathlib.Core.Path.{◌≡◌, refl}
use mathlib.Core.Bool.{Bool, true, false, ◌&&◌, ◌||◌}
use mathlib.Core.Bool as B
use native.Mathlib.Omega.{arith}
use native.Mathlib.Nat.{mod-eq_of_lt, zero-min, min-zero, suc-min-suc, zero-max, max-zero, suc-max-suc, pow-suc}
use lib.Bits.{bit_and, bit_or, bit_xor, differ, and_step, or_step, xor_step, and_shr, or_shr, xor_shr, xor_add_and, and_mask}
use lib.Pow.{pow_pos, high, ones_split, ones_lt}
use Rattle.meaning.specs.Memory.{truth}
use Rattle.laws.specs.Arithmetic.{bit_at, EachBit}

-- Bit by bit.
truth-min : (x y : ℕ) → truth (min x y) ≡ (truth x && truth y)
unfolding truth
truth-min zero y = rw zero-min
truth-min (suc x) zero = rw min-zero
truth-min (suc x) (suc y) = rw suc-min-suc

truth-max : (x y : ℕ) → truth (max x y) ≡ (truth x || truth y)
unfolding truth
truth-max zero y = rw zero-max
truth-max (suc x) zero = rw max-zero
truth-max (suc x) (suc y) = rw suc-max-suc

truth_differ : (x y : ℕ) → x < 2 → y < 2 → truth (differ x y) ≡ B.xor (truth x) (truth y)
unfolding truth B.xor
truth_differ zero zero h g = refl
truth_differ zero (suc y) h g = refl
truth_differ (suc x) zero h g = refl
truth_differ (suc zero) (suc zero) h g = refl
truth_differ (suc (suc x)) (suc y) h g = absurd (omega arith)
truth_differ (suc zero) (suc (suc y)) h g = absurd (omega arith)

module _ (a b i : ℕ) where
  pub and_bit : bit_at i (bit_and a b) ≡ (bit_at i a && bit_at i b)
  unfolding bit_at
  and_bit =
      let x = a / 2 ^ i in
      let y = b / 2 ^ i in
      let last : bit_and x y % 2 ≡ min (x % 2) (y % 2) = omega (arith, and_step x y) in
      rw (and_shr a b i, last) (truth-min (x % 2) (y % 2))

  pub or_bit : bit_at i (bit_or a b) ≡ (bit_at i a || bit_at i b)
  unfolding bit_at
  or_bit =
      let x = a / 2 ^ i in
      let y = b / 2 ^ i in
      let last : bit_or x y % 2 ≡ max (x % 2) (y % 2) = omega (arith, or_step x y) in
      rw (or_shr a b i, last) (truth-max (x % 2) (y % 2))

  pub xor_bit : bit_at i (bit_xor a b) ≡ B.xor (bit_at i a) (bit_at i b)
  unfolding bit_at
  xor_bit =
      let x = a / 2 ^ i in
      let y = b / 2 ^ i in
      let low : differ (x % 2) (y % 2) < 2 = differ_low (x % 2) (y % 2) (omega arith) (omega arith) in
      let last : bit_xor x y % 2 ≡ differ (x % 2) (y % 2) = omega (arith, xor_step x y) in
      rw (xor_shr a b i, last) (truth_differ (x % 2) (y % 2) (omega arith) (omega arith))
    where
      differ_low : (x y : ℕ) → x < 2 → y < 2 → differ x y < 2
      differ_low zero y h g = g
      differ_low (suc x) zero h g = h
      differ_low (suc x) (suc y) h g = differ_low x y (omega arith) (omega arith)

-- A word of n ones, and the complement by it.
one_bit : (i j : ℕ) → bit_at i (2 ^ (suc j + i) - 1) ≡ true
unfolding bit_at truth
one_bit i j =
    let ones : (2 ^ (suc j + i) - 1) / 2 ^ i ≡ 2 ^ suc j - 1 = rw (ones_split (suc j) i) (high (2 ^ suc j - 1) i (ones_lt i)) in
    let odd : (2 ^ suc j - 1) % 2 ≡ 1 = omega (arith, pow-suc 2 j, pow_pos j) in
    rw (ones, odd) refl

xor_true : (b : Bool) → B.xor b true ≡ B.not b
unfolding B.xor
xor_true true = refl
xor_true false = refl

pub complement_bits : (a : ℕ) → a < 2 ^ 32 → EachBit (λ i. B.not (bit_at i a)) (2 ^ 32 - 1 - a)
complement_bits a low i h =
    let all = 2 ^ 32 - 1 in
    let is : all - a ≡ bit_xor a all = omega (arith, xor_add_and a all, and_mask a 32, mod-eq_of_lt low) in
    let same : suc (31 - i) + i ≡ 32 = omega arith in
    let ones : bit_at i all ≡ true = rw same at (one_bit i (31 - i)) in
    rw (is, xor_bit a all i, ones) (xor_true (bit_at i a))
