-- Fractions that are one number, and what holds of both.
use mathlib.Core.Path.{◌≡◌, refl, sym, ap, ◌∙◌, subst}
use mathlib.Core.Bool.{Bool, true, false}
use Prim.Native.Nat.{ℕ, ◌+◌, ◌-◌, ◌*◌, ◌<◌}
use native.Mathlib.Nat.{mul_assoc, mul_comm, mul_right_comm, mul-pos, add-mul, mul-sub, zero-mul}
use native.Mathlib.Nat.{mul-lt-mul_of_pos_right, lt_of_mul-lt-mul_right, eq_of_mul-eq-mul_right}
use lib.Dec.{T, ltb, eqb, lt→ltb, ltb→lt, eqb→eq, eqb_refl}

pub same_test : (a b : Bool) → (T a → T b) → (T b → T a) → a ≡ b
same_test true true p q = refl
same_test true false p q = absurd (p tt)
same_test false true p q = absurd (q tt)
same_test false false p q = refl

-- a / c is v / l.
pub record Same (a c v l : ℕ) : Type 0 where
  pub left : 0 < c
  pub right : 0 < l
  pub cross : a * l ≡ v * c

module _ {a b c v w l : ℕ} (p : Same a c v l) (q : Same b c w l) where
  pub ltb_same : ltb a b ≡ ltb v w
  ltb_same =
      same_test (ltb a b) (ltb v w)
      (λ t. lt→ltb v w (lt_of_mul-lt-mul_right c (rw (p.cross, q.cross) at (mul-lt-mul_of_pos_right (ltb→lt a b t) p.right))))
      (λ t. lt→ltb a b (lt_of_mul-lt-mul_right l (rw (p.cross, q.cross) (mul-lt-mul_of_pos_right (ltb→lt v w t) p.left))))

  pub eqb_same : eqb a b ≡ eqb v w
  eqb_same =
      same_test (eqb a b) (eqb v w)
      (λ t. is_equal v w (eq_of_mul-eq-mul_right c p.left v w (sym p.cross ∙ ap (λ (z : ℕ). z * l) (eqb→eq a b t) ∙ q.cross)))
      (λ t. is_equal a b (eq_of_mul-eq-mul_right l p.right a b (p.cross ∙ ap (λ (z : ℕ). z * c) (eqb→eq v w t) ∙ sym q.cross)))
    where
      is_equal : (x y : ℕ) → x ≡ y → T (eqb x y)
      is_equal x y e = subst (λ (z : ℕ). T (eqb x z)) e (eqb_refl x)

  pub sum_same : Same (a + b) c (v + w) l
  sum_same = record { left = p.left; right = p.right; cross = rw (add-mul a b l, p.cross, q.cross) (sym (add-mul v w c)) }

  pub difference_same : Same (a - b) c (v - w) l
  difference_same = record {
    left = p.left;
    right = p.right;
    cross = rw (less a b l, p.cross, q.cross) (sym (less v w c));
  }
    where
      less : (x y z : ℕ) → (x - y) * z ≡ x * z - y * z
      less x y z = rw (mul_comm (x - y) z, mul-sub z x y, mul_comm z x, mul_comm z y)

pub zero_same : {c l : ℕ} → 0 < c → 0 < l → Same 0 c 0 l
zero_same {c} {l} h k = record { left = h; right = k; cross = zero-mul l ∙ sym (zero-mul c) }

-- Over a denominator that is d times as large.
module _ {a c v l : ℕ} (p : Same a c v l) {d : ℕ} (D : 0 < d) where
  pub over_left : Same (a * d) (c * d) v l
  over_left = record {
    left = mul-pos p.left D;
    right = p.right;
    cross = mul_right_comm a d l ∙ ap (λ (z : ℕ). z * d) p.cross ∙ mul_assoc v c d;
  }

  pub over_right : Same (a * d) (d * c) v l
  over_right = subst (λ (z : ℕ). Same (a * d) z v l) (mul_comm c d) over_left
