-- The invariant of the loop of `tokens::run`: the run of the whole is i and the run of what is left.
use mathlib.Core.Path.{◌≡◌}
use mathlib.Core.Bool.{Bool}
use Prim.Native.Nat.{ℕ, ◌+◌}
use lib.ListN.{drop}
use Rattle.meaning.specs.Tokens.{run_of}
use Rattle.tokens.specs.Lexing.{Tells}
use Rattle.tokens.proofs.run.Given as goal

abbrev pub invariant-loop-i : goal.invariant-loop-i
invariant-loop-i g l = (test : ℕ → Bool) → Tells (goal.F-post g l.passes) test → run_of test l.s ≡ l.i + run_of test (drop l.i l.s)
