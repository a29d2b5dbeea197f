-- Whole numbers with a sign as differences of two without: when they are the same, and their sums, negatives and products.
use Prim.Native.Nat.{ℕ, zero, suc, ◌+◌, ◌*◌, ◌-◌}
use mathlib.Core.Path.{◌≡◌, refl, sym, ap, ◌∙◌}
use mathlib.Core.Bool.{Bool, true, false}
use native.Mathlib.Omega.{arith}
use native.Mathlib.Nat.{add-mul, mul-add}
use lib.Dec.{ltb}
use lib.IntN.{ℤ, pos, negsuc, sub_ℕ, ◌+ℤ◌, ◌*ℤ◌, neg_ℤ}
use borrow.Author.Tests.{ltb-true, ltb-false}

-- A difference is below 0 or not.
pub by_difference : (P : ℤ → Type 0) (a b : ℕ) → ((k : ℕ) → b ≡ a + suc k → P (negsuc k)) → ((k : ℕ) → a ≡ b + k → P (pos k)) → P (sub_ℕ a b)
by_difference P a b f g = go (ltb a b) refl
  where
    go : (t : Bool) → ltb a b ≡ t → P (sub_ℕ a b)
    go true e = rw e (f (b - suc a) (omega (arith, ltb-true a b e)))
    go false e = rw e (g (a - b) (omega (arith, ltb-false a b e)))

module _ (a b : ℕ) where
  pub is_negsuc : (k : ℕ) → b ≡ a + suc k → sub_ℕ a b ≡ negsuc k
  is_negsuc k e = by_difference (λ z. z ≡ negsuc k) a b (λ l h. ap negsuc (omega arith)) (λ l h. absurd (omega arith))

  pub is_pos : (k : ℕ) → a ≡ b + k → sub_ℕ a b ≡ pos k
  is_pos k e = by_difference (λ z. z ≡ pos k) a b (λ l h. absurd (omega arith)) (λ l h. ap pos (omega arith))

  -- Two differences are the same exactly where the crosswise sums are.
  module _ (c d : ℕ) where
    pub same_difference : a + d ≡ c + b → sub_ℕ a b ≡ sub_ℕ c d
    same_difference e = by_difference (λ z. sub_ℕ a b ≡ z) c d (λ k h. is_negsuc k (omega arith)) (λ k h. is_pos k (omega arith))

    pub crosswise : sub_ℕ a b ≡ sub_ℕ c d → a + d ≡ c + b
    crosswise e =
        by_difference (λ z. sub_ℕ a b ≡ z → a + d ≡ c + b) c d
        (λ k h. by_difference (λ z. z ≡ negsuc k → a + d ≡ c + b) a b (λ l g s. let z : l ≡ k = cc in omega arith) (λ l g s. let z : ◌≡◌ {A = ℕ} 0 1 = cc in absurd (omega arith)))
        (λ k h. by_difference (λ z. z ≡ pos k → a + d ≡ c + b) a b (λ l g s. let z : ◌≡◌ {A = ℕ} 0 1 = cc in absurd (omega arith)) (λ l g s. let z : l ≡ k = cc in omega arith))
        e

-- The negative of a number without a sign.
below-zero : (k : ℕ) → neg_ℤ (pos k) ≡ sub_ℕ 0 k
below-zero zero = refl
below-zero (suc k) = sym (is_negsuc 0 (suc k) k (omega arith))

pub negative_of : (a b : ℕ) → neg_ℤ (sub_ℕ a b) ≡ sub_ℕ b a
negative_of a b =
    by_difference (λ z. neg_ℤ z ≡ sub_ℕ b a) a b
    (λ k h. sym (is_pos b a (suc k) (omega arith)))
    (λ k h. below-zero k ∙ same_difference 0 k b a (omega arith))

-- Products of sums.
module _ (a c k l : ℕ) where
  alike : a * c + (a + k) * (c + l) ≡ a * (c + l) + (a + k) * c + k * l
  alike = simp (mul-add, add-mul) (omega arith)

  unlike : (a + k) * (c + l) + a * c ≡ (a + k) * c + a * (c + l) + k * l
  unlike = simp (mul-add, add-mul) (omega arith)

module _ (a b c d : ℕ) where
  pub sum_of : sub_ℕ a b +ℤ sub_ℕ c d ≡ sub_ℕ (a + c) (b + d)
  sum_of =
      by_difference (λ z. z +ℤ sub_ℕ c d ≡ sub_ℕ (a + c) (b + d)) a b
      (λ k h. by_difference (λ z. negsuc k +ℤ z ≡ sub_ℕ (a + c) (b + d)) c d
      (λ l g. sym (is_negsuc (a + c) (b + d) (suc (k + l)) (omega arith)))
      (λ l g. same_difference l (suc k) (a + c) (b + d) (omega arith)))
      (λ k h. by_difference (λ z. pos k +ℤ z ≡ sub_ℕ (a + c) (b + d)) c d
      (λ l g. same_difference k (suc l) (a + c) (b + d) (omega arith))
      (λ l g. sym (is_pos (a + c) (b + d) (k + l) (omega arith))))

  pub product_of : sub_ℕ a b *ℤ sub_ℕ c d ≡ sub_ℕ (a * c + b * d) (a * d + b * c)
  product_of =
      by_difference (λ z. z *ℤ sub_ℕ c d ≡ sub_ℕ (a * c + b * d) (a * d + b * c)) a b
      (λ k h. by_difference (λ z. negsuc k *ℤ z ≡ sub_ℕ (a * c + b * d) (a * d + b * c)) c d
      (λ l g. rw (h, g) (sym (is_pos _ _ (suc k * suc l) (alike a c (suc k) (suc l)))))
      (λ l g. minus (suc k * l) (rw (h, g) (alike a d (suc k) l))))
      (λ k h. by_difference (λ z. pos k *ℤ z ≡ sub_ℕ (a * c + b * d) (a * d + b * c)) c d
      (λ l g. minus (k * suc l) (rw (h, g) (unlike b c k (suc l))))
      (λ l g. rw (h, g) (sym (is_pos _ _ (k * l) (unlike b d k l)))))
    where
      minus : (n : ℕ) → a * d + b * c ≡ a * c + b * d + n → neg_ℤ (pos n) ≡ sub_ℕ (a * c + b * d) (a * d + b * c)
      minus n e = below-zero n ∙ same_difference 0 n (a * c + b * d) (a * d + b * c) (omega arith)
