-- The codes of refusals are 1 to 13, and those of the judge 1 to 11.
use Prim.Native.Nat.{ℕ, ◌≤◌}
use mathlib.Core.Path.{◌≡◌, refl}
use mathlib.Core.Bool.{Bool, true, false, not, ◌||◌, false≢true}
use native.Mathlib.Omega.{arith}
use lib.Dec.{eqb}
use borrow.Author.Tests.{eqb-false}
use Rattle.meaning.specs.declared.Refusal.{Refusal}
use Rattle.meaning.specs.declared.Refusal.TheVariants.{TextTooLong, BadBytes, NotAllowed, TooDeep, UnknownName, AlreadyOpen, LengthNotListed, WrongKind, WrongLength, LengthOneTarget, TooManyDeclarations, MemoryTooShort, BudgetSpent}
use Rattle.meaning.specs.Codes.{code, the_judge_gives, only_a_run_gives}

record Coded (n : ℕ) : Type 0 where
  some : 1 ≤ n
  few : n ≤ 13

coded : (c : Refusal) → Coded (code c)
coded TextTooLong = record { some = omega arith; few = omega arith }
coded BadBytes = record { some = omega arith; few = omega arith }
coded NotAllowed = record { some = omega arith; few = omega arith }
coded TooDeep = record { some = omega arith; few = omega arith }
coded UnknownName = record { some = omega arith; few = omega arith }
coded AlreadyOpen = record { some = omega arith; few = omega arith }
coded LengthNotListed = record { some = omega arith; few = omega arith }
coded WrongKind = record { some = omega arith; few = omega arith }
coded WrongLength = record { some = omega arith; few = omega arith }
coded LengthOneTarget = record { some = omega arith; few = omega arith }
coded TooManyDeclarations = record { some = omega arith; few = omega arith }
coded MemoryTooShort = record { some = omega arith; few = omega arith }
coded BudgetSpent = record { some = omega arith; few = omega arith }

pub some_code : (c : Refusal) → 1 ≤ code c
some_code c = (coded c).some

pub few_codes : (c : Refusal) → code c ≤ 13
few_codes c = (coded c).few

-- "Judge gives 0 to 11"
pub judge-code : (c : Refusal) → the_judge_gives (code c) ≡ true → code c ≤ 11
unfolding the_judge_gives only_a_run_gives
judge-code c h = go (eqb (code c) 12) refl (eqb (code c) 13) refl h
  where
    go : (a : Bool) → eqb (code c) 12 ≡ a → (b : Bool) → eqb (code c) 13 ≡ b → not (a || (b || false)) ≡ true → code c ≤ 11
    go true _ b _ z = absurd (false≢true z)
    go false _ true _ z = absurd (false≢true z)
    go false x false y z = omega (arith, few_codes c, eqb-false (code c) 12 x, eqb-false (code c) 13 y)
