-- A program that can be run can be run with more declarations, and with more levels to open.
use Prim.Native.Nat.{ℕ, suc, ◌≤◌}
use native.Mathlib.Omega.{arith}
use Rattle.meaning.specs.Program.{Code, Program}
use Rattle.laws.specs.Sound.{Numbers, of_constant, of_variable, of_the_mask, of_one, of_two, Able, Runnable, of_nothing, of_step, of_put, of_both, of_choice, of_cycle, of_alone}

module _ {n m : ℕ} (l : n ≤ m) where
  numbers_more : {e : Code} → Numbers n e → Numbers m e
  numbers_more of_constant = of_constant
  numbers_more (of_variable {x} h) = of_variable {x = x} (omega arith)
  numbers_more of_the_mask = of_the_mask
  numbers_more (of_one a) = of_one (numbers_more a)
  numbers_more (of_two a b) = of_two (numbers_more a) (numbers_more b)

  able_more : {e : Code} → Able n e → Able m e
  able_more a = record { numbers = numbers_more a.numbers; fits = a.fits }

  pub runnable_more : {r : ℕ} {P : Program} → Runnable n r P → Runnable m r P
  runnable_more of_nothing = of_nothing
  runnable_more of_step = of_step
  runnable_more (of_put {x = x} h a) = of_put {x = x} (omega arith) (able_more a)
  runnable_more (of_both s t) = of_both (runnable_more s) (runnable_more t)
  runnable_more (of_choice a s t) = of_choice (able_more a) (runnable_more s) (runnable_more t)
  runnable_more (of_cycle a s) = of_cycle (able_more a) (runnable_more s)
  runnable_more (of_alone s) = of_alone (runnable_more s)

pub deeper : {n r : ℕ} {P : Program} → Runnable n r P → Runnable n (suc r) P
deeper of_nothing = of_nothing
deeper of_step = of_step
deeper (of_put h a) = of_put h a
deeper (of_both s t) = of_both (deeper s) (deeper t)
deeper (of_choice a s t) = of_choice a (deeper s) (deeper t)
deeper (of_cycle a s) = of_cycle a (deeper s)
deeper (of_alone s) = of_alone (deeper s)
