-- What a pattern stands for, by its fields; and a single with its sign turned round.
use mathlib.Core.Path.{◌≡◌, refl, sym, ap, ◌∙◌, subst}
use mathlib.Core.Logic.{inl, inr}
use mathlib.Core.Bool.{Bool, true, false, not, ◌&&◌, cond}
use Prim.Native.Nat.{ℕ, zero, suc, ◌+◌, ◌*◌, ◌/◌, ◌%◌, ◌^◌, ◌≤◌, ◌<◌}
use native.Mathlib.Nat.{lt_of_lt_of_le, mod-lt, mul-one, mul-le-mul_left, mul-lt-mul_of_pos_right}
use native.Mathlib.Omega.{arith}
use lib.Dec.{T, leb, le→leb, ltb, eqb, eqb→eq, eqb_refl, T_not, lit<, lit≤}
use lib.Arith.{lt→nleb}
use lib.Pow.{pow_pos, pow_mono}
use lib.IntN.{ℤ}
use lib.Ieee.{Float, nan, inf, fin, binary32, up, down, odd, of_bits, of_fields, to_bits, neg, is_nan as ieee_is_nan, nan_bits}
use lib.Ieee.Fits.{down_pos, neg-fits}
use lib.Ieee.Exact.{HasValue, odd_sign}
use lib.Ieee.Bits.{is_true, is_false, cond_no, to_bits-of_bits, of_bits-to_bits, of_bits-fits, nan_bits_above}
use Rattle.meaning.specs.Floats.{negative, exponent, fraction, is_nan, is_infinite, units_of, units, signed, infinity, the_nan, negated}
use Rattle.floats.proofs.Fractions.{Same}
use Rattle.floats.proofs.Rounding.{cond_yes, Decided, yes_or_no, nan_pattern_bits}

pub nan_pattern : (a : ℕ) → nan_bits binary32 a ≡ is_nan a
unfolding nan_bits
nan_pattern a = refl

-- A not-a-number's pattern, without its sign, is above the infinity's.
pub above_infinity : (a : ℕ) → is_nan a ≡ ltb infinity (a % 2 ^ 31)
above_infinity a = sym (nan_pattern a) ∙ nan_bits_above binary32 a

-- A single is a not-a-number, an infinity, or so many units with a sign.
pub data Is : Float → Bool → Bool → Bool → ℕ → Type 0 where
  no_number : {i s : Bool} {v : ℕ} → Is nan true i s v
  infinite : (s : Bool) → Is (inf s) false true s (2 ^ 277)
  finite : (s : Bool) (m v : ℕ) (e : ℤ) → Same (m * up e) (down e) v (2 ^ 149) → v < 2 ^ 277 → Is (fin s m e) false false s v

of_value : (x : Float) (s : Bool) (v : ℕ) → HasValue x s v (2 ^ 149) → v < 2 ^ 277 → Is x false false s v
of_value nan s v h b = absurd h
of_value (inf t) s v h b = absurd h
of_value (fin t m e) s v h b =
    let size : Same (m * up e) (down e) v (2 ^ 149) = record { left = down_pos e; right = pow_pos 149; cross = h.1 } in
    subst (λ (z : Bool). Is (fin t m e) false false z v) h.0 (finite t m v e size b)

size_below : (x t : ℕ) → suc x < 255 → t < 2 ^ 23 → (2 ^ 23 + t) * 2 ^ x < 2 ^ 277
size_below x t h l =
    let carried : 2 ^ 23 + t < 2 ^ 24 = omega arith in
    let few : x ≤ 253 = omega arith in
    lt_of_lt_of_le (mul-lt-mul_of_pos_right carried (pow_pos x)) (mul-le-mul_left (2 ^ 24) (pow_mono few))

-- An exponent that is not 0 and a fraction: an infinity or a not-a-number at 255.
module _ (s : Bool) (x t : ℕ) (X : suc x < 256) (H : t < 2 ^ 23) where
  at_most_254 : T (not (eqb (suc x) 255)) → suc x < 255
  at_most_254 n =
      let other : suc x ≡ 255 → ⊥ = λ e. T_not (eqb (suc x) 255) n (subst (λ (z : ℕ). T (eqb (suc x) z)) e (eqb_refl (suc x))) in
      omega (arith, X, other)

  at_255 : (b : Bool) → (T b → t ≡ 0) → suc x ≡ 255 → Is (cond b (inf s) nan) (not b) b s ((2 ^ 23 + t) * 2 ^ x)
  at_255 true z e =
      let before : x ≡ 254 = omega arith in
      let size : (2 ^ 23 + t) * 2 ^ x ≡ 2 ^ 277 = ap (λ (y : ℕ). (2 ^ 23 + y) * 2 ^ x) (z tt) ∙ ap (λ (y : ℕ). 2 ^ 23 * 2 ^ y) before in
      subst (λ (y : ℕ). Is (inf s) false true s y) (sym size) (infinite s)
  at_255 false z e = no_number

  field_is : (b : Bool) → (T b → suc x ≡ 255) → (T (not b) → suc x < 255)
      → Is (cond b (cond (eqb t 0) (inf s) nan) (odd 24 s (2 ^ 23 + t) x 149)) (b && not (eqb t 0)) (b && eqb t 0) s ((2 ^ 23 + t) * 2 ^ x)
  field_is true e n = at_255 (eqb t 0) (eqb→eq t 0) (e tt)
  field_is false e n =
      let m = 2 ^ 23 + t in
      of_value (odd 24 s m x 149) s (m * 2 ^ x) (odd_sign 24 s m x 149) (size_below x t (n tt) H)

fields : (s : Bool) (x t : ℕ) → x < 256 → t < 2 ^ 23
    → Is (of_fields binary32 s x t) (eqb x 255 && not (eqb t 0)) (eqb x 255 && eqb t 0) s (units_of x t)
unfolding of_fields units_of
fields s zero t X H =
    let x = odd 24 s t 0 149 in
    of_value x s t (subst (λ (z : ℕ). HasValue x s z (2 ^ 149)) (mul-one t) (odd_sign 24 s t 0 149)) (lt_of_lt_of_le H (lit≤ tt))
fields s (suc x) t X H = field_is s x t X H (eqb (suc x) 255) (eqb→eq (suc x) 255) (at_most_254 s x t X H)

pub view : (a : ℕ) → Is (of_bits binary32 a) (is_nan a) (is_infinite a) (negative a) (units a)
unfolding of_bits units
view a =
    let few : exponent a < 256 = omega arith in
    fields (negative a) (exponent a) (fraction a) few (mod-lt a (lit< tt))

-- The sign turned round.
pub turned_is : {x : Float} {n i s : Bool} {v : ℕ} → Is x n i s v → Is (neg x) n i (not s) v
unfolding neg
turned_is no_number = no_number
turned_is (infinite s) = infinite (not s)
turned_is (finite s m v e p b) = finite (not s) m v e p b

nan_of : {x : Float} {n i s : Bool} {v : ℕ} → Is x n i s v → T n → x ≡ nan
nan_of no_number t = refl
nan_of (infinite s) t = absurd t
nan_of (finite s m v e p b) t = absurd t

no_nan_of : {x : Float} {n i s : Bool} {v : ℕ} → Is x n i s v → T (not n) → T (not (ieee_is_nan x))
unfolding ieee_is_nan
no_nan_of no_number t = absurd t
no_nan_of (infinite s) t = tt
no_nan_of (finite s m v e p b) t = tt

neg_odd : (d : ℕ) (s : Bool) (q k l : ℕ) → neg (odd d s q k l) ≡ odd d (not s) q k l
unfolding neg odd
neg_odd d s zero k l = refl
neg_odd d s (suc q) k l = refl

neg_fields : (s : Bool) (x t : ℕ) → neg (of_fields binary32 s x t) ≡ of_fields binary32 (not s) x t
unfolding neg of_fields
neg_fields s zero t = neg_odd 24 s t 0 149
neg_fields s (suc x) t = go (eqb (suc x) 255) (eqb t 0)
  where
    go : (a b : Bool) → neg (cond a (cond b (inf s) nan) (odd 24 s (2 ^ 23 + t) x 149))
        ≡ cond a (cond b (inf (not s)) nan) (odd 24 (not s) (2 ^ 23 + t) x 149)
    go true true = refl
    go true false = refl
    go false b = neg_odd 24 s (2 ^ 23 + t) x 149

abbrev turned : ℕ → ℕ
turned a = signed (not (negative a)) (a % 2 ^ 31)

signed_is : (s : Bool) (r : ℕ) → r < 2 ^ 31 → (negative (signed s r) ≡ s) × ((signed s r % 2 ^ 31 ≡ r) × (signed s r < 2 ^ 32))
signed_is true r h = (is_true (leb (2 ^ 31) (2 ^ 31 + r)) (le→leb (2 ^ 31) (2 ^ 31 + r) (omega arith)), (omega arith, omega arith))
signed_is false r h = (is_false (leb (2 ^ 31) (0 + r)) (lt→nleb (2 ^ 31) (0 + r) (omega arith)), (omega arith, omega arith))

fraction_same : (a b : ℕ) → a % 2 ^ 31 ≡ b % 2 ^ 31 → fraction a ≡ fraction b
fraction_same a b h = omega arith

turned_neg : (a : ℕ) → of_bits binary32 (turned a) ≡ neg (of_bits binary32 a)
unfolding of_bits
turned_neg a =
    let h = signed_is (not (negative a)) (a % 2 ^ 31) (mod-lt a (lit< tt)) in
    ap (λ (z : Bool). of_fields binary32 z (exponent (turned a)) (fraction (turned a))) h.0
    ∙ ap (λ (z : ℕ). of_fields binary32 (not (negative a)) (z / 2 ^ 23) (fraction (turned a))) h.1.0
    ∙ ap (λ (z : ℕ). of_fields binary32 (not (negative a)) (exponent a) z) (fraction_same (turned a) a h.1.0)
    ∙ sym (neg_fields (negative a) (exponent a) (fraction a))

pub negated_agrees : (a : ℕ) → to_bits binary32 (neg (of_bits binary32 a)) ≡ negated a
unfolding negated
negated_agrees a = go (yes_or_no (is_nan a))
  where
    go : Decided (is_nan a) → to_bits binary32 (neg (of_bits binary32 a)) ≡ cond (is_nan a) the_nan (turned a)
    go (inl t) = ap (to_bits binary32) (nan_of (turned_is (view a)) t) ∙ nan_pattern_bits ∙ sym (cond_yes (is_nan a) the_nan (turned a) t)
    go (inr t) =
        let fits = (signed_is (not (negative a)) (a % 2 ^ 31) (mod-lt a (lit< tt))).1.1 in
        let number = subst (λ (x : Float). T (not (ieee_is_nan x))) (sym (turned_neg a)) (no_nan_of (turned_is (view a)) t) in
        ap (to_bits binary32) (sym (turned_neg a))
        ∙ to_bits-of_bits binary32 (turned a) fits number
        ∙ sym (cond_no (is_nan a) the_nan (turned a) t)

pub negated_single : (a : ℕ) → of_bits binary32 (negated a) ≡ neg (of_bits binary32 a)
negated_single a =
    let x = of_bits binary32 a in
    ap (of_bits binary32) (sym (negated_agrees a)) ∙ of_bits-to_bits binary32 (neg x) (neg-fits binary32 x (of_bits-fits binary32 a))
