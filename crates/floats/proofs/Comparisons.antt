-- Comparisons of patterns are lib.Ieee's of the singles that the patterns stand for. An infinity has more units than what is finite.
use mathlib.Core.Path.{◌≡◌, refl, sym, ap, ◌∙◌, subst}
use mathlib.Core.Bool.{Bool, true, false, not, ◌&&◌, ◌||◌, beq, cond}
use Prim.Native.Nat.{ℕ, ◌+◌, ◌^◌, ◌<◌}
use native.Mathlib.Nat.{le_of_lt, lt_irrefl, le-add_right, le-add_left, lt_of_lt_of_le}
use lib.Dec.{T, ltb, eqb, lt→ltb, eqb→eq, eqb_refl, not_T, lit<}
use lib.Arith.{le→nltb}
use lib.Ieee as I
use lib.Ieee.{Float, binary32, of_bits}
use lib.Ieee.Fits.{down_pos}
use lib.Ieee.Bits.{is_true, is_false}
use Rattle.meaning.specs.Floats.{negative, is_nan, units, unlike, below, level}
use Rattle.floats.proofs.Fractions.{Same, same_test, ltb_same, eqb_same, sum_same, zero_same, over_left, over_right}
use Rattle.floats.proofs.Patterns.{Is, no_number, infinite, finite, view}

module _ (v : ℕ) where
  module _ (h : v < 2 ^ 277) where
    past : ltb v (2 ^ 277) ≡ true
    past = is_true (ltb v (2 ^ 277)) (lt→ltb v (2 ^ 277) h)

    not_past : ltb (2 ^ 277) v ≡ false
    not_past = is_false (ltb (2 ^ 277) v) (le→nltb (2 ^ 277) v (le_of_lt h))

    not_at : eqb v (2 ^ 277) ≡ false
    not_at =
        let other : T (eqb v (2 ^ 277)) → ⊥ = λ t. lt_irrefl (2 ^ 277) (subst (λ (z : ℕ). z < 2 ^ 277) (eqb→eq v (2 ^ 277) t) h) in
        is_false (eqb v (2 ^ 277)) (not_T (eqb v (2 ^ 277)) other)

  some_left : ltb 0 (2 ^ 277 + v) ≡ true
  some_left = is_true (ltb 0 (2 ^ 277 + v)) (lt→ltb 0 (2 ^ 277 + v) (lt_of_lt_of_le (lit< tt) (le-add_right (2 ^ 277) v)))

  some_right : ltb 0 (v + 2 ^ 277) ≡ true
  some_right = is_true (ltb 0 (v + 2 ^ 277)) (lt→ltb 0 (v + 2 ^ 277) (lt_of_lt_of_le (lit< tt) (le-add_left (2 ^ 277) v)))

eqb_turned : (v w : ℕ) → eqb w v ≡ eqb v w
eqb_turned v w = same_test (eqb w v) (eqb v w) (turns w v) (turns v w)
  where
    turns : (a b : ℕ) → T (eqb a b) → T (eqb b a)
    turns a b t = subst (λ (z : ℕ). T (eqb z a)) (eqb→eq a b t) (eqb_refl a)

beq_turned : (s t : Bool) → beq s t ≡ beq t s
beq_turned true true = refl
beq_turned true false = refl
beq_turned false true = refl
beq_turned false false = refl

or_turned : (s t : Bool) → (s || t) ≡ (t || s)
or_turned true true = refl
or_turned true false = refl
or_turned false true = refl
or_turned false false = refl

not_not : (s : Bool) → s ≡ not (not s)
not_not true = refl
not_not false = refl

-- v units with the sign s, and w with the sign t.
abbrev below_of_finite : Bool → ℕ → Bool → ℕ → Bool
below_of_finite s v t w = cond s (cond t (ltb w v) (ltb 0 (v + w))) (not t && ltb v w)

abbrev level_of_finite : Bool → ℕ → Bool → ℕ → Bool
level_of_finite s v t w = eqb v w && (eqb v 0 || not (unlike s t))

module _ {a b c v w : ℕ} (p : Same a c v (2 ^ 149)) (q : Same b c w (2 ^ 149)) where
  finite_below : (s t : Bool) → I.below s a t b ≡ below_of_finite s v t w
  finite_below true true = ltb_same q p
  finite_below true false = ltb_same (zero_same p.left p.right) (sum_same p q)
  finite_below false true = refl
  finite_below false false = ltb_same p q

  finite_level : (s t : Bool) → I.level s a t b ≡ level_of_finite s v t w
  finite_level s t =
      rw (eqb_same p q, eqb_same p (zero_same p.left p.right)) (rw (← not_not (beq s t), or_turned (eqb v 0) (beq s t)))

below_is : {x y : Float} {n i s n' i' t : Bool} {v w : ℕ} → Is x n i s v → Is y n' i' t w
    → I.lt x y ≡ (not (n || n') && below_of_finite s v t w)
unfolding I.lt
below_is no_number r = refl
below_is (infinite s) no_number = refl
below_is (infinite true) (infinite true) = refl
below_is (infinite true) (infinite false) = refl
below_is (infinite false) (infinite true) = refl
below_is (infinite false) (infinite false) = refl
below_is (infinite true) (finite true n w d q b) = sym (past w b)
below_is (infinite true) (finite false n w d q b) = sym (some_left w)
below_is (infinite false) (finite true n w d q b) = refl
below_is (infinite false) (finite false n w d q b) = sym (not_past w b)
below_is (finite s m v e p b) no_number = refl
below_is (finite true m v e p b) (infinite true) = sym (not_past v b)
below_is (finite true m v e p b) (infinite false) = sym (some_right v)
below_is (finite false m v e p b) (infinite true) = refl
below_is (finite false m v e p b) (infinite false) = sym (past v b)
below_is (finite s m v e p b) (finite t n w d q b') = finite_below (over_left p (down_pos d)) (over_right q (down_pos e)) s t

level_is : {x y : Float} {n i s n' i' t : Bool} {v w : ℕ} → Is x n i s v → Is y n' i' t w
    → I.eq x y ≡ (not (n || n') && level_of_finite s v t w)
unfolding I.eq
level_is no_number r = refl
level_is (infinite s) no_number = refl
level_is (infinite true) (infinite true) = refl
level_is (infinite true) (infinite false) = refl
level_is (infinite false) (infinite true) = refl
level_is (infinite false) (infinite false) = refl
level_is (infinite s) (finite t n w d q b) = sym (ap (λ (z : Bool). z && (false || not (unlike s t))) (eqb_turned w (2 ^ 277) ∙ not_at w b))
level_is (finite s m v e p b) no_number = refl
level_is (finite s m v e p b) (infinite t) = sym (ap (λ (z : Bool). z && (eqb v 0 || not (unlike s t))) (not_at v b))
level_is (finite s m v e p b) (finite t n w d q b') = finite_level (over_left p (down_pos d)) (over_right q (down_pos e)) s t

module _ (a b : ℕ) where
  pub below_agrees : I.lt (of_bits binary32 a) (of_bits binary32 b) ≡ below a b
  unfolding below
  below_agrees = below_is (view a) (view b)

  pub level_agrees : I.eq (of_bits binary32 a) (of_bits binary32 b) ≡ level a b
  unfolding level
  level_agrees = level_is (view a) (view b)

  pub unequal_agrees : I.ne (of_bits binary32 a) (of_bits binary32 b) ≡ not (level a b)
  unfolding I.ne
  unequal_agrees = ap not level_agrees

  pub at_most_agrees : I.le (of_bits binary32 a) (of_bits binary32 b) ≡ (below a b || level a b)
  unfolding I.le
  at_most_agrees = rw (below_agrees, level_agrees)

-- Equality holds both ways.
module _ (a b : ℕ) where
  both_turned : (e : Bool) → (T e → units a ≡ units b) → (n u : Bool)
      → (not n && (e && (eqb (units b) 0 || u))) ≡ (not n && (e && (eqb (units a) 0 || u)))
  both_turned true h n u = rw (h tt)
  both_turned false h n u = refl

  level-turned : level b a ≡ level a b
  unfolding level
  level-turned =
      rw (or_turned (is_nan b) (is_nan a), eqb_turned (units a) (units b), beq_turned (negative b) (negative a))
      (both_turned (eqb (units a) (units b)) (eqb→eq (units a) (units b)) (is_nan a || is_nan b) (not (unlike (negative a) (negative b))))

  pub at_least_agrees : I.le (of_bits binary32 b) (of_bits binary32 a) ≡ (below b a || level a b)
  at_least_agrees = rw (at_most_agrees b a, level-turned)
