-- Tests as facts, and two numbers in order.
use mathlib.Core.Path.{◌≡◌, refl, ap}
use mathlib.Core.Bool.{Bool, true, false, ◌&&◌, ◌||◌}
use Prim.Native.Nat.{ℕ, zero, suc, ◌<◌}
use native.Mathlib.Omega.{arith}
use lib.Dec.{T}

pub and_l : (a b : Bool) → T (a && b) → T a
and_l true b t = tt
and_l false b t = t

pub and_r : (a b : Bool) → T (a && b) → T b
and_r true b t = t
and_r false b t = absurd t

pub and_both : (a b : Bool) → T a → T b → T (a && b)
and_both true b t u = u
and_both false b t u = absurd t

pub false_and : (a b : Bool) → a ≡ false → a && b ≡ false
false_and a b e = rw e

pub or_cases : {X : Type 0} (a b : Bool) → (T a → X) → (T b → X) → T (a || b) → X
or_cases true b f g t = f tt
or_cases false b f g t = g t

pub or_r : (a b : Bool) → T b → T (a || b)
or_r true b t = tt
or_r false b t = t

pub true_of : (b : Bool) → T b → b ≡ true
true_of true t = refl
true_of false t = absurd t

pub false_of : (b : Bool) → (T b → ⊥) → b ≡ false
false_of true f = absurd (f tt)
false_of false f = refl

pub data Order (x y : ℕ) : Type 0 where
  below : x < y → Order x y
  same : x ≡ y → Order x y
  above : y < x → Order x y

pub order : (x y : ℕ) → Order x y
order zero zero = same refl
order zero (suc y) = below (omega arith)
order (suc x) zero = above (omega arith)
order (suc x) (suc y) = go (order x y)
  where
    go : Order x y → Order (suc x) (suc y)
    go (below h) = below (omega arith)
    go (same h) = same (ap suc h)
    go (above h) = above (omega arith)
