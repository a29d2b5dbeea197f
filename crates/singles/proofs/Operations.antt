-- Sums, differences and products are the exact ones, rounded; and what they are of infinities and of not-a-numbers.
use Prim.Native.Nat.{ℕ, zero, suc, ◌+◌, ◌-◌, ◌*◌, ◌^◌, ◌<◌}
use mathlib.Core.Path.{◌≡◌, refl, sym, ap, ap₂, subst, ◌∙◌}
use mathlib.Core.Logic.{◌≢◌, ◌⊎◌, inl, inr}
use mathlib.Core.Bool.{Bool, true, false, ◌&&◌, ◌||◌, cond, or-true}
use native.Mathlib.Nat.{zero-mul, mul-zero}
use native.Mathlib.Omega.{arith}
use lib.Dec.{eqb, ltb}
use lib.IntN.{ℤ, pos, sub_ℕ, nat_abs, neg_ℤ, ◌+ℤ◌, ◌*ℤ◌}
use borrow.Author.Tests.{lt-ltb, le-ltb, ne_eqb}
use Rattle.meaning.specs.Floats.{negative, is_nan, is_infinite, units, infinity, rounded, signed, unlike, the_nan, plus, minus, times, negated}
use Rattle.laws.proofs.Integers.{by_difference, is_pos, negative_of, sum_of}
use Rattle.laws.proofs.Tests.{by_test}
use Rattle.laws.proofs.Floats.{rounded-fits}
use Rattle.singles.specs.Rounding.{Nearest}
use Rattle.singles.specs.Numbers.{with_sign, amount, ANan, NoNan, Infinite, Finite}
use Rattle.singles.specs.Operations.{sign_of, nearest_single, SingleIsNearest, SumsAreRounded, DifferencesAreRounded, ProductsAreRounded, NansStay, SumsOfInfinities, DifferencesOfInfinities, ProductsOfInfinities}
use Rattle.singles.proofs.Rounding.{rounds_to_nearest}
use Rattle.singles.proofs.Numbers.{signed-negative, signed-size, finite_no_nan, finite_not_infinite, infinite_no_nan, negated-negative, negated-exponent, negated-number, negated_infinite, negated_is_exact}
use Rattle.singles.proofs.Signs.{size_of}

pub single_is_nearest : SingleIsNearest
unfolding nearest_single
single_is_nearest s z d some =
    let p = rounded (nat_abs z) d in
    let low : p < 2 ^ 31 = omega (arith, rounded-fits (nat_abs z) d) in
    (signed-negative (sign_of s z) p low, subst (Nearest (nat_abs z) d) (sym (signed-size (sign_of s z) p low)) (rounds_to_nearest (nat_abs z) d some))

-- ---- sums

-- A number with a sign as a difference.
difference : (s : Bool) (v : ℕ) → with_sign s v ≡ sub_ℕ (cond s 0 v) (cond s v 0)
difference true v = ap neg_ℤ (sym (is_pos v 0 v (omega arith))) ∙ negative_of v 0
difference false v = sym (is_pos v 0 v (omega arith))

exact : (s t : Bool) (v w : ℕ) → with_sign s v +ℤ with_sign t w ≡ sub_ℕ (cond s 0 v + cond t 0 w) (cond s v 0 + cond t w 0)
exact s t v w = ap₂ ◌+ℤ◌ (difference s v) (difference t w) ∙ sum_of (cond s 0 v) (cond s v 0) (cond t 0 w) (cond t w 0)

-- A number that is not below zero, where a zero has no sign.
plain : (n : ℕ) → sign_of false (pos n) ≡ false
plain zero = refl
plain (suc n) = refl

abbrev summed : Bool → Bool → ℕ → ℕ → ℕ
summed s t v w =
    cond (unlike s t) (cond (ltb v w) (signed t (rounded (w - v) 1)) (signed (s && ltb w v) (rounded (v - w) 1))) (signed s (rounded (v + w) 1))

abbrev IsSummed : Bool → Bool → ℕ → ℕ → ℤ → Type 0
IsSummed s t v w z = summed s t v w ≡ nearest_single (s && t) z 1

-- One size, written in two ways.
sized : (s : Bool) (m n : ℕ) → m ≡ n → signed s (rounded m 1) ≡ signed s (rounded n 1)
sized s m n e = ap (λ (x : ℕ). signed s (rounded x 1)) e

sum_is : (s t : Bool) (v w : ℕ) → IsSummed s t v w (sub_ℕ (cond s 0 v + cond t 0 w) (cond s v 0 + cond t w 0))
unfolding nearest_single
sum_is false false v w =
    by_difference (IsSummed false false v w) (v + w) (0 + 0) (λ k h. absurd (omega arith)) (λ k h. rw plain (sized false (v + w) k (omega arith)))
sum_is true true v w =
    by_difference (IsSummed true true v w) (0 + 0) (v + w) (λ k h. sized true (v + w) (suc k) (omega arith))
    (λ k h. let none : k ≡ 0 = omega arith in rw none (sized true (v + w) 0 (omega arith)))
sum_is true false v w =
    by_difference (IsSummed true false v w) (0 + w) (v + 0)
    (λ k h. rw (le-ltb v w (omega arith), lt-ltb w v (omega arith)) (sized true (v - w) (suc k) (omega arith)))
    (λ k h. rw plain (up k (omega arith)))
  where
    up : (k : ℕ) → w ≡ v + k → summed true false v w ≡ signed false (rounded k 1)
    up zero h = rw (le-ltb v w (omega arith), le-ltb w v (omega arith)) (sized false (v - w) 0 (omega arith))
    up (suc k) h = rw (lt-ltb v w (omega arith)) (sized false (w - v) (suc k) (omega arith))
sum_is false true v w =
    by_difference (IsSummed false true v w) (v + 0) (0 + w)
    (λ k h. rw (lt-ltb v w (omega arith)) (sized true (w - v) (suc k) (omega arith)))
    (λ k h. rw (plain, le-ltb v w (omega arith)) (sized false (v - w) k (omega arith)))

module _ (a b : ℕ) (f : Finite a) (g : Finite b) where
  plus_is : plus a b ≡ summed (negative a) (negative b) (units a) (units b)
  unfolding plus
  plus_is = rw (finite_no_nan a f, finite_no_nan b g, finite_not_infinite a f, finite_not_infinite b g)

pub sums_are_rounded : SumsAreRounded
unfolding amount
sums_are_rounded a b f g =
    plus_is a b f g ∙ sum_is (negative a) (negative b) (units a) (units b)
    ∙ ap (λ z. nearest_single (negative a && negative b) z 1) (sym (exact (negative a) (negative b) (units a) (units b)))

pub differences_are_rounded : DifferencesAreRounded
unfolding minus
differences_are_rounded a b f g =
    let n = finite_no_nan b g in
    sums_are_rounded a (negated b) f (subst (λ (x : ℕ). x < 255) (sym (negated-exponent b n)) g)
    ∙ ap₂ (λ (s : Bool) (z : ℤ). nearest_single (negative a && s) (amount a +ℤ z) 1) (negated-negative b n) (negated_is_exact b n).0

-- ---- products

product : (s t : Bool) (v w : ℕ) → with_sign s v *ℤ with_sign t w ≡ with_sign (unlike s t) (v * w)
product false false v w = refl
product true false zero w = rw zero-mul
product true false (suc v) w = refl
product false true v zero = rw mul-zero
product false true v (suc w) = refl
product true true zero zero = refl
product true true zero (suc w) = rw zero-mul
product true true (suc v) zero = rw mul-zero
product true true (suc v) (suc w) = refl

kept_sign : (s : Bool) (n : ℕ) → sign_of s (with_sign s n) ≡ s
kept_sign true zero = refl
kept_sign true (suc n) = refl
kept_sign false n = plain n

times_is : (a b : ℕ) → Finite a → Finite b → times a b ≡ signed (unlike (negative a) (negative b)) (rounded (units a * units b) (2 ^ 149))
unfolding times
times_is a b f g = rw (finite_no_nan a f, finite_no_nan b g, finite_not_infinite a f, finite_not_infinite b g)

of_one_sign : (s : Bool) (n d : ℕ) → signed s (rounded n d) ≡ nearest_single s (with_sign s n) d
unfolding nearest_single
of_one_sign s n d = sym (ap₂ (λ (t : Bool) (m : ℕ). signed t (rounded m d)) (kept_sign s n) (size_of s n))

pub products_are_rounded : ProductsAreRounded
unfolding amount
products_are_rounded a b f g =
    let s = unlike (negative a) (negative b) in
    times_is a b f g ∙ of_one_sign s (units a * units b) (2 ^ 149)
    ∙ ap (λ z. nearest_single s z (2 ^ 149)) (sym (product (negative a) (negative b) (units a) (units b)))

-- ---- not-a-numbers

nan_turned : (a : ℕ) → ANan a → negated a ≡ the_nan
unfolding negated
nan_turned a e = rw e

-- Where one of two is a not-a-number, it still is when the second is turned.
still_one : (a b : ℕ) → (is_nan a || is_nan b) ≡ true → (is_nan a || is_nan (negated b)) ≡ true
still_one a b e = by_test (is_nan b) (λ n. rw (nan_turned b n) (or-true (is_nan a))) (λ n. rw (negated-number b n) e)

nan_sum : (a b : ℕ) → (is_nan a || is_nan b) ≡ true → plus a b ≡ the_nan
unfolding plus
nan_sum a b e = rw e

pub nans_stay : NansStay
unfolding minus times
nans_stay = record { sum = nan_sum; difference = λ a b e. nan_sum a (negated b) (still_one a b e); product = λ a b e. rw e; opposite = nan_turned }

-- ---- infinities

apart : (s t : Bool) → s ≢ t → unlike s t ≡ true
apart true true f = absurd (f refl)
apart true false f = refl
apart false true f = refl
apart false false f = absurd (f refl)

together : (s t : Bool) → s ≡ t → unlike s t ≡ false
together true true e = refl
together true false e = e
together false true e = sym e
together false false e = refl

pub sums_of_infinities : SumsOfInfinities
unfolding plus
sums_of_infinities = record {
  first = λ a b i f. rw (infinite_no_nan a i, finite_no_nan b f, i, finite_not_infinite b f);
  second = λ a b f i. rw (infinite_no_nan b i, finite_no_nan a f, i, finite_not_infinite a f);
  alike = λ a b i j e. rw (infinite_no_nan a i, infinite_no_nan b j, i, j, together (negative a) (negative b) e);
  against = λ a b i j e. rw (infinite_no_nan a i, infinite_no_nan b j, i, j, apart (negative a) (negative b) e);
}

module _ (b : ℕ) (n : NoNan b) where
  turned_finite : Finite b → Finite (negated b)
  turned_finite f = subst (λ (x : ℕ). x < 255) (sym (negated-exponent b n)) f

  turned_infinite : Infinite b → Infinite (negated b)
  turned_infinite i = negated_infinite b n ∙ i

pub differences_of_infinities : DifferencesOfInfinities
unfolding minus
differences_of_infinities = record {
  first = λ a b i f. sums.first a (negated b) i (turned_finite b (finite_no_nan b f) f);
  second = λ a b f i.
      let n = infinite_no_nan b i in
      sums.second a (negated b) f (turned_infinite b n i) ∙ ap (λ (s : Bool). signed s infinity) (negated-negative b n);
  alike = λ a b i j e. let n = infinite_no_nan b j in sums.alike a (negated b) i (turned_infinite b n j) (e ∙ sym (negated-negative b n));
  against = λ a b i j e. let n = infinite_no_nan b j in sums.against a (negated b) i (turned_infinite b n j) (λ s. e (s ∙ negated-negative b n));
}
  where
    sums : SumsOfInfinities
    sums = sums_of_infinities

one_infinite : (a b : ℕ) → Infinite a ⊎ Infinite b → (is_infinite a || is_infinite b) ≡ true
one_infinite a b (inl i) = rw i
one_infinite a b (inr i) = rw i (or-true (is_infinite a))

one_zero : (v w : ℕ) → (v ≡ 0) ⊎ (w ≡ 0) → (eqb v 0 || eqb w 0) ≡ true
one_zero v w (inl e) = rw e
one_zero v w (inr e) = rw e (or-true (eqb v 0))

pub products_of_infinities : ProductsOfInfinities
unfolding times
products_of_infinities = record {
  some = λ a b n m i e f. rw (n, m, one_infinite a b i, ne_eqb (units a) 0 e, ne_eqb (units b) 0 f);
  none = λ a b n m i e. rw (n, m, one_infinite a b i, one_zero (units a) (units b) e);
}
