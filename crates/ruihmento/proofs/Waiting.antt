-- How many values wait at once in the expressions of a program, by its words: in an expression each but one has an operator, and a unit
-- is three words.
use Prim.Native.Nat.{ℕ, ◌+◌, ◌*◌, ◌-◌, ◌≤◌}
use mathlib.Core.Path.{◌≡◌}
use mathlib.Core.List.{List}
use native.Mathlib.Omega.{arith}
use lib.ListN.{length, length-append}
use Rattle.meaning.specs.Program.{Code, constant, variable, the_mask, one, two, Program}
use Rattle.meaning.specs.Memory.{Declarations}
use Rattle.layout.specs.Words.{unit_words, headed}
use Rattle.layout.specs.Code.{code_words, program_words}
use Rattle.layout.specs.Instructions.{chunk_lanes}
use Rattle.laws.specs.Sound.{code_stack, stack_limit, Able, Runnable, of_nothing, of_step, of_put, of_both, of_choice, of_cycle, of_alone}
use Rattle.laws.specs.Values.{Every, every_nothing, every_step, every_put, every_both, every_choice, every_cycle, every_alone}
use Rattle.instructions.proofs.Leaving.{some_stack}
use Rattle.ruihmento.specs.Waiting.{waiting}
use Rattle.ruihmento.specs.Contract.{SomePlanned, SomePrepared}

stack-words : (e : Code) → 2 * unit_words * code_stack e ≤ length (code_words e) + unit_words
unfolding code_stack code_words
stack-words (constant n) = omega arith
stack-words (variable x) = omega arith
stack-words the_mask = omega arith
stack-words (one p k o a) = rw (length-append (code_words a)) (omega (arith, stack-words a))
stack-words (two p k o a b) = rw (length-append (code_words a), length-append (code_words b)) (omega (arith, stack-words a, some_stack a, stack-words b))

-- No more wait than the words tell, nor in fewer words.
stack-waiting : {n w : ℕ} {e : Code} → Able n e → length (code_words e) ≤ w → code_stack e ≤ waiting w
unfolding waiting
stack-waiting {e = e} a h = omega (arith, a.fits, stack-words e)

length-headed : (tag p : ℕ) (h w : List ℕ) → length (headed tag p h w) ≡ unit_words + (length h + length w)
unfolding headed
length-headed tag p h w = simp length-append (omega arith)

-- So registers for the values that may wait in so many words serve every expression of a program of no more.
module _ {n w registers : ℕ} (room : waiting w * chunk_lanes ≤ registers) where
  serves : {e : Code} → Able n e → length (code_words e) ≤ w → code_stack e * chunk_lanes ≤ registers
  serves a h = omega (arith, stack-waiting a h)

  pub all_served : {r : ℕ} {Γ : Declarations} {P : Program} → Runnable n r P → length (program_words P) ≤ w → Every (λ k e. code_stack e * chunk_lanes ≤ registers) Γ P
  unfolding program_words
  all_served of_nothing h = every_nothing
  all_served of_step h = every_step
  all_served (of_put {e = e} x a) h = every_put (serves a (omega (arith, simp length-headed at h)))
  all_served (of_both {s = s} {t = t} f g) h =
      let l = simp length-append at h in every_both (all_served f (omega arith)) (all_served g (omega arith))
  all_served (of_choice {e = e} {s = s} {t = t} a f g) h =
      let l = simp (length-headed, length-append) at h in every_choice (serves a (omega arith)) (all_served f (omega arith)) (all_served g (omega arith))
  all_served (of_cycle {e = e} {s = s} a f) h =
      let l = simp (length-headed, length-append) at h in every_cycle (serves a (omega arith)) (all_served f (omega arith))
  all_served (of_alone {s = s} f) h = every_alone (all_served f (omega (arith, simp length-headed at h)))

-- Registers for n values that wait are enough for a program of so few words.
pub registers_few : (n : ℕ) {w : ℕ} → w ≤ 2 * unit_words * n - unit_words → waiting w * chunk_lanes ≤ n * chunk_lanes
unfolding waiting
registers_few n h = omega arith

-- As many as may wait in any expression are enough for every program.
pub registers_all : (w : ℕ) → waiting w * chunk_lanes ≤ 232 * chunk_lanes
unfolding waiting stack_limit
registers_all w = omega arith

-- With registers that are enough the plan of some program can run.
pub a_run_ready : {w m registers : ℕ} {code : List ℕ} → SomePlanned w code m → waiting w * chunk_lanes ≤ registers → SomePrepared code registers m
a_run_ready p enough = (p.0, p.1, p.2.prepared _ enough)
