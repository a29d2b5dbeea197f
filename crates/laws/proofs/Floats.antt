-- What the operations on singles give are patterns of 32 bits, which a store leaves as they are.
use Prim.Native.Nat.{ℕ, ◌+◌, ◌-◌, ◌*◌, ◌%◌, ◌^◌, ◌≤◌, ◌<◌}
use mathlib.Core.Path.{◌≡◌, refl, sym, ap₂, subst, ◌∙◌}
use mathlib.Core.Bool.{Bool, true, false, not, ◌&&◌, ◌||◌, false≢true}
use native.Mathlib.Nat.{min-le_right, zero-add}
use native.Mathlib.Omega.{arith}
use lib.Dec.{eqb, ltb}
use borrow.Author.Tests.{eqb-true, eqb-false, not-true}
use Rattle.meaning.specs.Floats.{negative, exponent, fraction, is_nan, is_infinite, units, infinity, rounded, signed, the_nan, one_nan, unlike, plus, negated, minus, times, whole_float}
use Rattle.laws.specs.Floats.{Storable}
use Rattle.laws.proofs.Tests.{and_l, and_r, by_test, by_cond}

-- A rounded number has no pattern past the infinity's.
pub rounded-fits : (n d : ℕ) → rounded n d ≤ infinity
unfolding rounded
rounded-fits n d = min-le_right _ infinity

-- A pattern without its sign is past the infinity's exactly where it is a not-a-number's.
nan_above : (a : ℕ) → is_nan a ≡ true → infinity < a % 2 ^ 31
nan_above a e =
    let x : exponent a ≡ 255 = eqb-true (exponent a) 255 (and_l _ _ e) in
    let t = eqb-false (fraction a) 0 (not-true _ (and_r (eqb (exponent a) 255) _ e)) in
    omega arith

pub no_nan_low : (a : ℕ) → is_nan a ≡ false → a % 2 ^ 31 ≤ infinity
no_nan_low a e =
    by_test (eqb (exponent a) 255)
    (λ x. by_test (eqb (fraction a) 0)
    (λ t. let x' = eqb-true (exponent a) 255 x in let t' = eqb-true (fraction a) 0 t in omega arith)
    (λ t. absurd (false≢true (sym e ∙ ap₂ (λ (c d : Bool). c && not d) x t))))
    (λ x. let x' = eqb-false (exponent a) 255 x in omega arith)

low_no_nan : (a : ℕ) → a % 2 ^ 31 ≤ infinity → is_nan a ≡ false
low_no_nan a low = by_test (is_nan a) (λ e. absurd (omega (arith, nan_above a e))) (λ e. e)

-- With a sign or without.
signed_low : (s : Bool) (p : ℕ) → p ≤ infinity → signed s p % 2 ^ 31 ≤ infinity
signed_low true p low = omega arith
signed_low false p low = omega arith

signed-fits : (s : Bool) (p : ℕ) → p ≤ infinity → signed s p < 2 ^ 32
signed-fits true p low = omega arith
signed-fits false p low = omega arith

kept : (a : ℕ) → is_nan a ≡ false → one_nan a ≡ a
unfolding one_nan
kept a e = rw e

-- What an operation gives: the one not-a-number, or a pattern up to the infinity's with a sign.
the_nan-storable : Storable the_nan
unfolding one_nan
the_nan-storable = record { fits = omega arith; stays = refl }

signed-storable : (s : Bool) (p : ℕ) → p ≤ infinity → Storable (signed s p)
signed-storable s p low = record { fits = signed-fits s p low; stays = kept (signed s p) (low_no_nan (signed s p) (signed_low s p low)) }

single : (s : Bool) (n d : ℕ) → Storable (signed s (rounded n d))
single s n d = signed-storable s (rounded n d) (rounded-fits n d)

infinite : (s : Bool) → Storable (signed s infinity)
infinite s = signed-storable s infinity (omega arith)

pub plus-storable : (a b : ℕ) → Storable (plus a b)
unfolding plus
plus-storable a b =
    by_cond Storable (is_nan a || is_nan b) (λ _. the_nan-storable) λ _.
    by_cond Storable (is_infinite a && is_infinite b) (λ _. by_cond Storable (unlike s t) (λ _. the_nan-storable) (λ _. infinite s)) λ _.
    by_cond Storable (is_infinite a) (λ _. infinite s) λ _.
    by_cond Storable (is_infinite b) (λ _. infinite t) λ _.
    by_cond Storable (unlike s t) (λ _. by_cond Storable (ltb v w) (λ _. single t (w - v) 1) (λ _. single (s && ltb w v) (v - w) 1)) λ _.
    single s (v + w) 1
  where
    s : Bool
    s = negative a

    t : Bool
    t = negative b

    v : ℕ
    v = units a

    w : ℕ
    w = units b

pub negated-storable : (a : ℕ) → Storable (negated a)
unfolding negated
negated-storable a = by_cond Storable (is_nan a) (λ _. the_nan-storable) (λ e. signed-storable (not (negative a)) (a % 2 ^ 31) (no_nan_low a e))

pub minus-storable : (a b : ℕ) → Storable (minus a b)
unfolding minus
minus-storable a b = plus-storable a (negated b)

pub times-storable : (a b : ℕ) → Storable (times a b)
unfolding times
times-storable a b =
    by_cond Storable (is_nan a || is_nan b) (λ _. the_nan-storable) λ _.
    by_cond Storable (is_infinite a || is_infinite b)
    (λ _. by_cond Storable (eqb (units a) 0 || eqb (units b) 0) (λ _. the_nan-storable) (λ _. infinite s)) λ _.
    single s (units a * units b) (2 ^ 149)
  where
    s : Bool
    s = unlike (negative a) (negative b)

pub whole-storable : (n : ℕ) → Storable (whole_float n)
unfolding whole_float
whole-storable n = subst Storable (zero-add (rounded (n * 2 ^ 149) 1)) (single false (n * 2 ^ 149) 1)

-- What is stored is a pattern, which another store leaves as it is.
pub one_nan-storable : (a : ℕ) → a < 2 ^ 32 → Storable (one_nan a)
unfolding one_nan
one_nan-storable a low = by_cond Storable (is_nan a) (λ _. the_nan-storable) (λ e. record { fits = low; stays = kept a e })
