-- The units of a pattern, by its fields; a greater pattern has more.
use Prim.Native.Nat.{ℕ, zero, suc, ◌+◌, ◌-◌, ◌*◌, ◌/◌, ◌%◌, ◌^◌, ◌≤◌, ◌<◌}
use mathlib.Core.Path.{◌≡◌, refl, ap, ap₂, ◌∙◌}
use mathlib.Core.Logic.{◌⊎◌, inl, inr}
use native.Mathlib.Nat.{pow-suc, mul-lt-mul_of_pos_right, eq-or-lt_of_le, le_of_suc-le-suc}
use native.Mathlib.Omega.{arith}
use lib.Dec.{ltb}
use lib.Pow.{pow_pos}
use borrow.Author.Tests.{ltb-true, ltb-false}
use Rattle.meaning.specs.Floats.{exponent, fraction, units_of, units, infinity}
use Rattle.laws.proofs.Tests.{by_test}
use Rattle.singles.specs.Rounding.{Increasing}

-- A significand of at most 2 ^ 24, which is 2 ^ 23 or more unless the exponent is the smallest.
pub record Significand (k q : ℕ) : Type 0 where
  pub high : q ≤ 2 ^ 24
  pub low : (k ≡ 0) ⊎ (2 ^ 23 ≤ q)

pub of_fields : (a x t : ℕ) → exponent a ≡ x → fraction a ≡ t → units a ≡ units_of x t
unfolding units
of_fields a x t e f = ap₂ units_of e f

-- "q * 2 ^ k units have the pattern k * 2 ^ 23 + q, whether or not q has a 24th digit", and where it has a 25th.
pub units_at : (k q : ℕ) → Significand k q → k * 2 ^ 23 + q ≤ infinity → units (k * 2 ^ 23 + q) ≡ q * 2 ^ k
unfolding units_of
units_at k q s fits =
    by_test (ltb q (2 ^ 23))
    (λ e. small (ltb-true q (2 ^ 23) e) s.low)
    (λ e. by_test (ltb q (2 ^ 24)) (λ f. middle (ltb-false q (2 ^ 23) e) (ltb-true q (2 ^ 24) f)) (λ f. top (omega (arith, ltb-false q (2 ^ 24) f))))
  where
    small : q < 2 ^ 23 → (k ≡ 0) ⊎ (2 ^ 23 ≤ q) → units (k * 2 ^ 23 + q) ≡ q * 2 ^ k
    small l (inl e) = of_fields (k * 2 ^ 23 + q) 0 q (omega arith) (omega arith) ∙ rw e (omega arith)
    small l (inr h) = absurd (omega arith)

    middle : 2 ^ 23 ≤ q → q < 2 ^ 24 → units (k * 2 ^ 23 + q) ≡ q * 2 ^ k
    middle h l =
        let whole : 2 ^ 23 + (q - 2 ^ 23) ≡ q = omega arith in
        of_fields (k * 2 ^ 23 + q) (suc k) (q - 2 ^ 23) (omega arith) (omega arith) ∙ ap (λ (x : ℕ). x * 2 ^ k) whole

    top : q ≡ 2 ^ 24 → units (k * 2 ^ 23 + q) ≡ q * 2 ^ k
    top e =
        of_fields (k * 2 ^ 23 + q) (suc (suc k)) 0 (omega arith) (omega arith)
        ∙ ap (λ (x : ℕ). 2 ^ 23 * x) (pow-suc 2 k) ∙ rw e (omega arith)

-- Every pattern without a sign is of that form, and then so is the next.
pub record Split (p : ℕ) : Type 0 where
  pub scale : ℕ
  pub kept : ℕ
  pub is : p ≡ scale * 2 ^ 23 + kept
  pub below : kept < 2 ^ 24
  pub low : (scale ≡ 0) ⊎ (2 ^ 23 ≤ kept)

pub split : (p : ℕ) → Split p
split p =
    by_test (ltb p (2 ^ 23))
    (λ e. let l = ltb-true p (2 ^ 23) e in record { scale = 0; kept = p; is = omega arith; below = omega arith; low = inl refl })
    (λ e.
    let l = ltb-false p (2 ^ 23) e in
    record { scale = p / 2 ^ 23 - 1; kept = 2 ^ 23 + p % 2 ^ 23; is = omega arith; below = omega arith; low = inr (omega arith) })

next : (p : ℕ) → p < infinity → units p < units (suc p)
next p l = go (split p)
  where
    go : Split p → units p < units (suc p)
    go s =
        let k = s.scale in
        let q = s.kept in
        let same : suc p ≡ k * 2 ^ 23 + suc q = omega arith in
        let here : units p ≡ q * 2 ^ k = ap units s.is ∙ units_at k q (record { high = omega arith; low = s.low }) (omega arith) in
        let there : units (suc p) ≡ suc q * 2 ^ k =
        ap units same ∙ units_at k (suc q) (record { high = omega arith; low = later s.low }) (omega arith) in
        rw (here, there) (mul-lt-mul_of_pos_right (omega arith) (pow_pos k))
      where
        later : (s.scale ≡ 0) ⊎ (2 ^ 23 ≤ s.kept) → (s.scale ≡ 0) ⊎ (2 ^ 23 ≤ suc s.kept)
        later (inl e) = inl e
        later (inr h) = inr (omega arith)

pub increasing : Increasing
increasing p zero h l = absurd (omega arith)
increasing p (suc q) h l = go (eq-or-lt_of_le (le_of_suc-le-suc h)) (λ m. increasing p q m (omega arith))
  where
    go : (p ≡ q) ⊎ (p < q) → (p < q → units p < units q) → units p < units (suc q)
    go (inl e) less = rw e (next q (omega arith))
    go (inr m) less = omega (arith, less m, next q (omega arith))
