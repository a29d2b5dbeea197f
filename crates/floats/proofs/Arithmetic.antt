-- Sums, differences and products on patterns are lib.Ieee's on the singles that the patterns stand for.
use mathlib.Core.Path.{◌≡◌, refl, sym, ap, ◌∙◌}
use mathlib.Core.Bool.{Bool, true, false, ◌&&◌, ◌||◌, cond}
use Prim.Native.Nat.{ℕ, ◌+◌, ◌-◌, ◌*◌, ◌^◌, ◌<◌}
use native.Mathlib.Nat.{mul_assoc, mul-one, mul-pos, mul-mul-mul_comm}
use lib.Dec.{ltb, eqb, lit<}
use lib.Pow.{pow_pos}
use lib.IntN.{ℤ}
use lib.Ieee as I
use lib.Ieee.{Float, nan, inf, binary32, up, down, of_bits, to_bits, round}
use lib.Ieee.Fits.{up_pos, down_pos}
use Rattle.meaning.specs.Floats.{rounded, signed, infinity, the_nan, unlike}
use Rattle.meaning.specs.Floats.{plus, negated, minus, times}
use Rattle.floats.proofs.Rounding.{round_bits, infinity-bits, nan_pattern_bits}
use Rattle.floats.proofs.Fractions.{Same, ltb_same, eqb_same, sum_same, difference_same, zero_same, over_left, over_right}
use Rattle.floats.proofs.Patterns.{Is, no_number, infinite, finite, view, negated_single}

-- v units with the sign s, and w with the sign t.
abbrev sum_of_finite : Bool → ℕ → Bool → ℕ → ℕ
sum_of_finite s v t w =
    cond (unlike s t) (cond (ltb v w) (signed t (rounded (w - v) 1)) (signed (s && ltb w v) (rounded (v - w) 1)))
    (signed s (rounded (v + w) 1))

module _ {a b c v w : ℕ} (p : Same a c v (2 ^ 149)) (q : Same b c w (2 ^ 149)) where
  rounds : (s : Bool) {n u : ℕ} → Same n c u (2 ^ 149) → to_bits binary32 (round binary32 s n c) ≡ signed s (rounded u 1)
  rounds s {n} {u} h = round_bits s n c u 1 h.left (lit< tt) (mul-one (n * 2 ^ 149) ∙ h.cross)

  apart : (s t z : Bool) → to_bits binary32 (cond z (round binary32 t (b - a) c) (round binary32 s (a - b) c))
      ≡ cond z (signed t (rounded (w - v) 1)) (signed s (rounded (v - w) 1))
  apart s t true = rounds t (difference_same q p)
  apart s t false = rounds s (difference_same p q)

  unlike-signs : (s t : Bool) → to_bits binary32 (cond (ltb a b) (round binary32 t (b - a) c) (round binary32 (s && ltb b a) (a - b) c))
      ≡ cond (ltb v w) (signed t (rounded (w - v) 1)) (signed (s && ltb w v) (rounded (v - w) 1))
  unlike-signs s t = rw (ltb_same p q, ltb_same q p) (apart (s && ltb w v) t (ltb v w))

  finite_sum : (s t : Bool) → to_bits binary32 (I.sum binary32 s a t b c) ≡ sum_of_finite s v t w
  unfolding I.sum
  finite_sum true true = rounds true (sum_same p q)
  finite_sum false false = rounds false (sum_same p q)
  finite_sum true false = unlike-signs true false
  finite_sum false true = unlike-signs false true

abbrev sum_of : Bool → Bool → Bool → ℕ → Bool → Bool → Bool → ℕ → ℕ
sum_of n i s v n' i' t w =
    cond (n || n') the_nan
    (cond (i && i') (cond (unlike s t) the_nan (signed s infinity))
    (cond i (signed s infinity)
    (cond i' (signed t infinity) (sum_of_finite s v t w))))

sum_is : {x y : Float} {n i s n' i' t : Bool} {v w : ℕ} → Is x n i s v → Is y n' i' t w
    → to_bits binary32 (I.add binary32 x y) ≡ sum_of n i s v n' i' t w
unfolding I.add
sum_is no_number r = nan_pattern_bits
sum_is (infinite s) no_number = nan_pattern_bits
sum_is (infinite true) (infinite true) = infinity-bits true
sum_is (infinite true) (infinite false) = nan_pattern_bits
sum_is (infinite false) (infinite true) = nan_pattern_bits
sum_is (infinite false) (infinite false) = infinity-bits false
sum_is (infinite s) (finite t m v e p b) = infinity-bits s
sum_is (finite s m v e p b) no_number = nan_pattern_bits
sum_is (finite s m v e p b) (infinite t) = infinity-bits t
sum_is (finite s m v e p b) (finite t n w d q b') = finite_sum (over_left p (down_pos d)) (over_right q (down_pos e)) s t

pub plus_agrees : (a b : ℕ) → to_bits binary32 (I.add binary32 (of_bits binary32 a) (of_bits binary32 b)) ≡ plus a b
unfolding plus
plus_agrees a b = sum_is (view a) (view b)

pub minus_agrees : (a b : ℕ) → to_bits binary32 (I.sub binary32 (of_bits binary32 a) (of_bits binary32 b)) ≡ minus a b
unfolding minus I.sub
minus_agrees a b = rw (← negated_single b) (plus_agrees a (negated b))

-- Products.
no_size : (m : ℕ) {v : ℕ} (e : ℤ) → Same (m * up e) (down e) v (2 ^ 149) → eqb m 0 ≡ eqb v 0
no_size m {v} e h =
    let scaled : 0 < up e * 2 ^ 149 = mul-pos (up_pos e) (pow_pos 149) in
    let cross : m * (up e * 2 ^ 149) ≡ v * down e = sym (mul_assoc m (up e) (2 ^ 149)) ∙ h.cross in
    let size : Same m (down e) v (up e * 2 ^ 149) = record { left = h.left; right = scaled; cross = cross } in
    eqb_same size (zero_same h.left scaled)

or-false : (b : Bool) → (b || false) ≡ b
or-false true = refl
or-false false = refl

-- An infinity times z, a zero or not.
infinite_times : (z s : Bool) → to_bits binary32 (cond z nan (inf s)) ≡ cond z the_nan (signed s infinity)
infinite_times true s = nan_pattern_bits
infinite_times false s = infinity-bits s

abbrev product_of : Bool → Bool → Bool → ℕ → Bool → Bool → Bool → ℕ → ℕ
product_of n i s v n' i' t w =
    cond (n || n') the_nan
    (cond (i || i') (cond (eqb v 0 || eqb w 0) the_nan (signed (unlike s t) infinity))
    (signed (unlike s t) (rounded (v * w) (2 ^ 149))))

product_is : {x y : Float} {n i s n' i' t : Bool} {v w : ℕ} → Is x n i s v → Is y n' i' t w
    → to_bits binary32 (I.mul binary32 x y) ≡ product_of n i s v n' i' t w
unfolding I.mul
product_is no_number r = nan_pattern_bits
product_is (infinite s) no_number = nan_pattern_bits
product_is (infinite s) (infinite t) = infinity-bits (unlike s t)
product_is (infinite s) (finite t n w d q b) = rw (no_size n d q) (infinite_times (eqb w 0) (unlike s t))
product_is (finite s m v e p b) no_number = nan_pattern_bits
product_is (finite s m v e p b) (infinite t) = rw (no_size m e p, or-false (eqb v 0)) (infinite_times (eqb v 0) (unlike s t))
product_is (finite s m v e p b) (finite t n w d q b') =
    round_bits (unlike s t) (m * up e * (n * up d)) (down e * down d) (v * w) (2 ^ 149) (mul-pos (down_pos e) (down_pos d)) (pow_pos 149)
    (mul_assoc (m * up e * (n * up d)) (2 ^ 149) (2 ^ 149)
    ∙ mul-mul-mul_comm (m * up e) (n * up d) (2 ^ 149) (2 ^ 149)
    ∙ ap (λ (z : ℕ). z * (n * up d * 2 ^ 149)) p.cross
    ∙ ap (λ (z : ℕ). v * down e * z) q.cross
    ∙ mul-mul-mul_comm v (down e) w (down d))

pub times_agrees : (a b : ℕ) → to_bits binary32 (I.mul binary32 (of_bits binary32 a) (of_bits binary32 b)) ≡ times a b
unfolding times
times_agrees a b = product_is (view a) (view b)
