-- Singles compare as the numbers that they stand for.
use Prim.Native.Nat.{ℕ, zero, suc, ◌+◌}
use mathlib.Core.Path.{◌≡◌, refl, sym, ap, ap₂, subst, ◌∙◌}
use mathlib.Core.Bool.{Bool, true, false, not, ◌&&◌, ◌||◌, cond}
use native.Mathlib.Omega.{arith}
use native.Mathlib.Nat.{zero-add}
use lib.Dec.{T, ltb, eqb, leb-suc-suc}
use lib.IntN.{pos, neg_ℤ}
use lib.Signed.{lt_z, lt_z_yes}
use borrow.Author.Tests.{lt-ltb, le-ltb, eq-eqb, eqb-true}
use Rattle.meaning.specs.Floats.{negative, units, unlike, is_nan, below, level}
use Rattle.meaning.specs.Memory.{bit}
use Rattle.meaning.specs.Running.{float_binary}
use Rattle.laws.proofs.Tests.{and_l, and_r}
use Rattle.singles.specs.Numbers.{with_sign, amount, NoNan}
use Rattle.singles.specs.Comparisons.{BelowIsLess, LevelIsSame, NansCompareFalse, NansAreUnequal, ZerosAreEqual}
use Rattle.singles.proofs.Signs.{sizes, alike, same}

-- Numbers with a sign, compared by their sizes.
both_negative : (v w : ℕ) → lt_z (neg_ℤ (pos v)) (neg_ℤ (pos w)) ≡ ltb w v
both_negative zero zero = refl
both_negative zero (suc w) = sym (le-ltb (suc w) 0 (omega arith))
both_negative (suc v) zero = sym (lt-ltb 0 (suc v) (omega arith))
both_negative (suc v) (suc w) = sym (leb-suc-suc (suc w) v)

first_negative : (v w : ℕ) → lt_z (neg_ℤ (pos v)) (pos w) ≡ ltb 0 (v + w)
first_negative zero w = rw zero-add
first_negative (suc v) w = sym (lt-ltb 0 (suc v + w) (omega arith))

second_negative : (v w : ℕ) → lt_z (pos v) (neg_ℤ (pos w)) ≡ false
second_negative v zero = le-ltb v 0 (omega arith)
second_negative v (suc w) = refl

less : (s t : Bool) (v w : ℕ) → lt_z (with_sign s v) (with_sign t w) ≡ cond s (cond t (ltb w v) (ltb 0 (v + w))) (not t && ltb v w)
less true true v w = both_negative v w
less true false v w = first_negative v w
less false true v w = second_negative v w
less false false v w = refl

passes : (b : Bool) → T b → b ≡ true
passes true h = refl
passes false h = absurd h

below_is : (a b : ℕ) → NoNan a → NoNan b → below a b ≡ lt_z (amount a) (amount b)
unfolding below amount
below_is a b e f = rw (e, f) (sym (less (negative a) (negative b) (units a) (units b)))

pub below_is_less : BelowIsLess
below_is_less a b e f = record {
  only = λ t. lt_z_yes (subst T (sym (sym (below_is a b e f) ∙ t)) tt);
  whenever = λ h. below_is a b e f ∙ passes (lt_z (amount a) (amount b)) h.lt;
}

level_is : (a b : ℕ) → NoNan a → NoNan b → level a b ≡ (eqb (units a) (units b) && (eqb (units a) 0 || not (unlike (negative a) (negative b))))
unfolding level
level_is a b e f = rw (e, f)

pub level_is_same : LevelIsSame
unfolding amount
level_is_same a b e f = record { only = λ t. made (sym (level_is a b e f) ∙ t); whenever = λ h. level_is a b e f ∙ found h }
  where
    made : (eqb (units a) (units b) && (eqb (units a) 0 || not (unlike (negative a) (negative b)))) ≡ true → amount a ≡ amount b
    made t =
        same (negative a) (negative b) (units a) (and_r (eqb (units a) (units b)) _ t)
        ∙ ap (with_sign (negative b)) (eqb-true (units a) (units b) (and_l _ _ t))

    found : amount a ≡ amount b → (eqb (units a) (units b) && (eqb (units a) 0 || not (unlike (negative a) (negative b)))) ≡ true
    found h =
        ap₂ ◌&&◌ (eq-eqb (units a) (units b) (sizes (negative a) (negative b) (units a) (units b) h))
        (alike (negative a) (negative b) (units a) (units b) h)

pub nans_compare_false : NansCompareFalse
unfolding below level
nans_compare_false a b e = (rw e, rw e)

turned : (a b : ℕ) → (is_nan a || is_nan b) ≡ true → (is_nan b || is_nan a) ≡ true
turned a b e = or_comm (is_nan b) (is_nan a) ∙ e
  where
    or_comm : (c d : Bool) → (c || d) ≡ (d || c)
    or_comm true true = refl
    or_comm true false = refl
    or_comm false true = refl
    or_comm false false = refl

pub nans_are_unequal : NansAreUnequal
unfolding float_binary bit
nans_are_unequal a b e =
    let no = nans_compare_false a b e in
    let back = nans_compare_false b a (turned a b e) in
    record {
      unequal = rw no.1;
      equal = rw no.1;
      less = rw no.0;
      more = rw back.0;
      at_most = rw (no.0, no.1);
      at_least = rw (back.0, no.1);
    }

pub zeros_are_equal : ZerosAreEqual
unfolding float_binary level bit
zeros_are_equal = refl
