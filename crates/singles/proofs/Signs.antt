-- A number with a sign: its size, and when two are the same.
use Prim.Native.Nat.{ℕ, zero, suc}
use mathlib.Core.Path.{◌≡◌, refl, sym, ap, ◌∙◌}
use mathlib.Core.Bool.{Bool, true, false, not, ◌||◌, or-true}
use lib.Dec.{eqb}
use lib.IntN.{pos, nat_abs, pos-ne-negsuc}
use borrow.Author.Tests.{eqb-true}
use Rattle.meaning.specs.Floats.{unlike}
use Rattle.laws.proofs.Tests.{or_cases}
use Rattle.singles.specs.Numbers.{with_sign}

pub size_of : (s : Bool) (v : ℕ) → nat_abs (with_sign s v) ≡ v
size_of true zero = refl
size_of true (suc v) = refl
size_of false v = refl

-- Zero is the same with either sign.
pub no_sign : (s : Bool) (v : ℕ) → eqb v 0 ≡ true → with_sign s v ≡ pos 0
no_sign s v h = rw (eqb-true v 0 h) (zero_is s)
  where
    zero_is : (s : Bool) → with_sign s 0 ≡ pos 0
    zero_is true = refl
    zero_is false = refl

pub one_sign : (s t : Bool) → not (unlike s t) ≡ true → s ≡ t
one_sign true true h = refl
one_sign true false h = sym h
one_sign false true h = h
one_sign false false h = refl

pub same : (s t : Bool) (v : ℕ) → (eqb v 0 || not (unlike s t)) ≡ true → with_sign s v ≡ with_sign t v
same s t v h =
    or_cases (eqb v 0) (not (unlike s t)) h (λ z. no_sign s v z ∙ sym (no_sign t v z)) (λ e. ap (λ (x : Bool). with_sign x v) (one_sign s t e))

-- Two that are the same have one size, and one sign unless they are zero.
module _ (s t : Bool) (v w : ℕ) (e : with_sign s v ≡ with_sign t w) where
  pub sizes : v ≡ w
  sizes = sym (size_of s v) ∙ ap nat_abs e ∙ size_of t w

  pub alike : (eqb v 0 || not (unlike s t)) ≡ true
  alike = go s t v (e ∙ ap (with_sign t) (sym sizes))
    where
      go : (s t : Bool) (v : ℕ) → with_sign s v ≡ with_sign t v → (eqb v 0 || not (unlike s t)) ≡ true
      go s t zero h = refl
      go true true (suc v) h = or-true (eqb (suc v) 0)
      go true false (suc v) h = absurd (pos-ne-negsuc (suc v) v (sym h))
      go false true (suc v) h = absurd (pos-ne-negsuc (suc v) v h)
      go false false (suc v) h = or-true (eqb (suc v) 0)
