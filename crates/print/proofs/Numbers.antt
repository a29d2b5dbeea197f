-- A number's digits are those of its tenth and its last, and a number below 2 ^ 32 has at most ten. Assumes nothing.
use Prim.Native.Nat.{ℕ, zero, suc, ◌+◌, ◌*◌, ◌/◌, ◌%◌, ◌^◌, ◌≤◌, ◌<◌}
use mathlib.Core.Path.{◌≡◌, refl, ap}
use mathlib.Core.Bool.{Bool, true, false}
use mathlib.Core.List.{List, [], ◌∷◌, ◌++◌, append_assoc}
use native.Mathlib.Nat.{pow-suc}
use native.Mathlib.Omega.{arith}
use lib.Dec.{ltb}
use lib.ListN.{length, length-append}
use borrow.Author.Tests.{ltb-true, ltb-false, lt-ltb, le-ltb}
use Rattle.meaning.specs.Codes.{when◌then◌else◌}
use Rattle.meaning.specs.Tokens.{bytes}
use Rattle.meaning.specs.Services.{answer}
use Rattle.print.specs.Printed.{Printed}
use Rattle.print.specs.Shown.{digit, digits, decimal, line}

-- Any two bounds above the number give the same digits.
digits_same : (j k n : ℕ) → n < j → n < k → digits j n ≡ digits k n
unfolding digits
digits_same zero k n h l = absurd (omega arith)
digits_same (suc j) zero n h l = absurd (omega arith)
digits_same (suc j) (suc k) n h l = go (ltb n 10) refl (λ big. digits_same j k (n / 10) (omega arith) (omega arith))
  where
    go : (b : Bool) → ltb n 10 ≡ b → (10 ≤ n → digits j (n / 10) ≡ digits k (n / 10))
        → (when b then (λ _. digit n ∷ []) else λ _. digits j (n / 10) ++ (digit (n % 10) ∷ [])) ≡ (when b then (λ _. digit n ∷ []) else λ _. digits k (n / 10) ++ (digit (n % 10) ∷ []))
    go true e tenth = refl
    go false e tenth = rw (tenth (ltb-false n 10 e))

-- The two cases of the definition.
pub one_digit : (n : ℕ) → n < 10 → decimal n ≡ digit n ∷ []
unfolding decimal digits
one_digit n h = rw (lt-ltb n 10 h)

pub more_digits : (n : ℕ) → 10 ≤ n → decimal n ≡ decimal (n / 10) ++ (digit (n % 10) ∷ [])
unfolding decimal digits
more_digits n h =
    rw (le-ltb n 10 h) (ap (λ (l : List ℕ). l ++ (digit (n % 10) ∷ [])) (digits_same n (suc (n / 10)) (n / 10) (omega arith) (omega arith)))

-- How many they are.
pub length_one : (n : ℕ) → n < 10 → length (decimal n) ≡ 1
length_one n h = rw (one_digit n h)

pub length_more : (n : ℕ) → 10 ≤ n → length (decimal n) ≡ length (decimal (n / 10)) + 1
length_more n h = rw (more_digits n h) (simp length-append)

-- A number below 10 ^ k has at most k digits, for k above 0.
few_digits : (k n : ℕ) → n < 10 ^ suc k → length (decimal n) ≤ suc k
few_digits zero n h = omega (arith, length_one n h)
few_digits (suc k) n h = go (ltb n 10) refl (few_digits k (n / 10) (let e : 10 ^ suc (suc k) ≡ 10 ^ suc k * 10 = pow-suc 10 (suc k) in omega arith))
  where
    go : (b : Bool) → ltb n 10 ≡ b → length (decimal (n / 10)) ≤ suc k → length (decimal n) ≤ suc (suc k)
    go true e tenth = omega (arith, length_one n (ltb-true n 10 e))
    go false e tenth = omega (arith, length_more n (ltb-false n 10 e))

pub ten_digits : (n : ℕ) → n < 2 ^ 32 → length (decimal n) ≤ 10
ten_digits n h = few_digits 9 n (omega arith)

-- A line is four numbers, each with the byte that ends it.
pub line_is : (a b c d : ℕ) → decimal a ++ (32 ∷ []) ++ (decimal b ++ (32 ∷ [])) ++ (decimal c ++ (32 ∷ [])) ++ (decimal d ++ (10 ∷ [])) ≡ line (answer a b c d)
unfolding line answer bytes
line_is a b c d = simp append_assoc

pub line-length : (a b c d : ℕ) → length (line (answer a b c d)) ≡ length (decimal a) + length (decimal b) + length (decimal c) + length (decimal d) + 4
line-length a b c d = rw (← line_is a b c d) (simp length-append (omega arith))

-- Where a number and the byte that ends it end.
pub ended_at : {a b : List ℕ} {i j : ℕ} (n e : ℕ) → Printed a i (decimal n ++ (e ∷ [])) b j → j ≡ i + length (decimal n) + 1
ended_at n e p = omega (arith, p.next_is, length-append (decimal n) (e ∷ []))
